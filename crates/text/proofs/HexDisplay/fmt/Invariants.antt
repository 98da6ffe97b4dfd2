-- How `text::Hex` is printed. The loop's invariant: what was written, and the digits of the bytes that are left, are the digits of all bytes.
use Prim.Native.Nat.{ℕ}
use mathlib.Core.Path.{◌≡◌}
use mathlib.Core.List.{List, ◌++◌}
use lib.ListN.{length}
use Rattle.std.specs.Fmt.{HasWritten, IsPlainFormatter}
use Rattle.text.specs.Text.{hex_of}
use Rattle.text.proofs.HexDisplay.fmt.Given as goal

abbrev pub invariant-loop-left : goal.invariant-loop-left
invariant-loop-left g l =
    IsPlainFormatter l.initial.f
    → (done : List ℕ) × ((done ++ l.left ≡ l.self.0.now) × HasWritten g.W.Write.write_str_gives l.initial.f (hex_of done) l.f)

abbrev pub decreases-loop-left : goal.decreases-loop-left
decreases-loop-left g l = length l.left
