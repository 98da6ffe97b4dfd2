-- `finished::put_ids` meets its contract: the three numbers stand one behind the other, and behind each there is room for the next.
use Rattle.finished.specs.Finished.{id_bytes}
use Rattle.laws.proofs.Appends.{room_here, room_next, append_more}
use Rattle.finished.proofs.put_ids.Goals as goal

pub put_number-requires : goal.put_number-requires
unfolding id_bytes
put_number-requires c = room_here _ c.requires

pub put_number-requires-2 : goal.put_number-requires-2
unfolding id_bytes
put_number-requires-2 c = room_here _ (room_next c.put_number.ensures.appended c.requires)

pub put_number-requires-3 : goal.put_number-requires-3
unfolding id_bytes
put_number-requires-3 c = room_next c.put_number-2.ensures.appended (room_next c.put_number.ensures.appended c.requires)

pub returns-clause-appended : goal.returns-clause-appended
unfolding id_bytes
returns-clause-appended c =
    let behind = room_next c.put_number.ensures.appended c.requires in
    append_more c.requires c.put_number.ensures.appended (append_more behind c.put_number-2.ensures.appended c.put_number-3.ensures.appended)
