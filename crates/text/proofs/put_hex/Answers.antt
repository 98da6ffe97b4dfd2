-- `text::put_hex` meets its contract. The loop's invariant: the hex digits of the bytes so far were put into the same buffer; each turn puts the next two behind
-- them, for which there is room.
use mathlib.Core.Path.{refl, ◌∙◌}
use Rattle.laws.proofs.Appends.{room_next, append-none, append_more}
use Rattle.text.proofs.Laws.{hex_one, hex_room}
use Rattle.text.proofs.put_hex.Goals as goal

pub loop-b-init : goal.loop-b-init
loop-b-init c = (append-none _ _, refl)

pub put-requires : goal.put-requires
put-requires c =
    let room = hex_room c.args.bytes.now c.loop-b.b-index c.loop-b-test.true c.requires in
    record { fits = (room_next c.loop-b.invariant.0 room).fits }

pub loop-b-preserved : goal.loop-b-preserved
loop-b-preserved c =
    let loop = c.loop-b in
    let room = hex_room c.args.bytes.now loop.b-index c.loop-b-test.true c.requires in (
      rw (hex_one c.args.bytes.now loop.b-index c.loop-b-test.true)
          (append_more room loop.invariant.0 (rw (c.digit.ensures, c.digit-in-loop-b.ensures) at c.put.ensures.appended)),
      c.put.ensures.lent ∙ loop.invariant.1,
    )
