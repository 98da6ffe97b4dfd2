-- `text::put_hex` meets its contract. The loop's invariant: the hex digits of the bytes so far were put into the same buffer; each turn puts the next two behind
-- them, for which there is room.
use mathlib.Core.Path.{◌≡◌}
use lib.ListN.{take}
use Rattle.laws.specs.Appending.{Appended}
use Rattle.text.specs.Text.{hex_of}
use Rattle.text.proofs.put_hex.Given as goal

abbrev pub invariant-loop-b : goal.invariant-loop-b
invariant-loop-b l =
    Appended l.initial.c.buffer.now l.initial.c.at (hex_of (take l.b-index l.bytes)) l.c.at l.c.buffer.now
    × (l.c.buffer.ghost_name ≡ l.initial.c.buffer.ghost_name)
