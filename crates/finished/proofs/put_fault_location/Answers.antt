-- `finished::put_fault_location` meets its contract: nothing is put where no fault location is given; else its three pieces stand one behind
-- the other, and behind each there is room for the next.
use mathlib.Core.Path.{◌≡◌, sym, ◌∙◌}
use mathlib.Core.Bool.{false}
use Rattle.laws.proofs.Tests.{cond-false}
use Rattle.finished.specs.Finished.{entity_tlv, location, unlocated}
use Rattle.finished.specs.declared.EntityId.{EntityId}
use Rattle.finished.specs.declared.FinishedPdu.{FinishedPdu}
use Rattle.laws.proofs.Appends.{room_here, room_next, append-none, append_more}
use Rattle.finished.proofs.put_fault_location.Goals as goal

-- past the test a fault location is given
given : (f : FinishedPdu) (local : EntityId) → unlocated f ≡ false → location f local ≡ entity_tlv local
unfolding location
given f local e = cond-false e _ _

pub returns-then-without_location-clause-appended : goal.returns-then-without_location-clause-appended
unfolding location
returns-then-without_location-clause-appended c = rw (← c.without_location.ensures, c.if-without_location.true) (append-none _ _)

pub push-requires : goal.push-requires
push-requires c =
    let all = rw (given c.args.f c.args.local (sym c.without_location.ensures ∙ c.if-without_location.false)) at c.requires in
    room_here _ all

pub push-requires-2 : goal.push-requires-2
push-requires-2 c =
    let all = rw (given c.args.f c.args.local (sym c.without_location.ensures ∙ c.if-without_location.false)) at c.requires in
    rw c.bytes.ensures.value (room_here _ (room_next c.push.ensures.appended all))

pub put_number-requires : goal.put_number-requires
put_number-requires c =
    let all = rw (given c.args.f c.args.local (sym c.without_location.ensures ∙ c.if-without_location.false)) at c.requires in
    let width = rw c.bytes.ensures.value at c.push-2.ensures.appended in
    room_next width (room_next c.push.ensures.appended all)

pub returns-clause-appended : goal.returns-clause-appended
returns-clause-appended c =
    let here = given c.args.f c.args.local (sym c.without_location.ensures ∙ c.if-without_location.false) in
    let all = rw here at c.requires in
    let width = rw c.bytes.ensures.value at c.push-2.ensures.appended in
    let behind = room_next c.push.ensures.appended all in
    rw here (append_more all c.push.ensures.appended (append_more behind width c.put_number.ensures.appended))
