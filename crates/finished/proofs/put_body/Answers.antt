-- `finished::put_body` meets its contract: its three pieces stand one behind the other, and behind each there is room for the next.
use Rattle.finished.specs.Finished.{body_bytes}
use Rattle.laws.proofs.Appends.{room_here, room_next, append_more}
use Rattle.finished.proofs.put_body.Goals as goal

pub push-requires : goal.push-requires
unfolding body_bytes
push-requires c = room_here _ c.requires

pub push-requires-2 : goal.push-requires-2
unfolding body_bytes
push-requires-2 c = rw c.flags_byte.ensures (room_here _ (room_next c.push.ensures.appended c.requires))

pub put_fault_location-requires : goal.put_fault_location-requires
unfolding body_bytes
put_fault_location-requires c =
    let flags = rw c.flags_byte.ensures at c.push-2.ensures.appended in
    room_next flags (room_next c.push.ensures.appended c.requires)

pub returns-clause-appended : goal.returns-clause-appended
unfolding body_bytes
returns-clause-appended c =
    let flags = rw c.flags_byte.ensures at c.push-2.ensures.appended in
    let behind = room_next c.push.ensures.appended c.requires in
    append_more c.requires c.push.ensures.appended (append_more behind flags c.put_fault_location.ensures.appended)
