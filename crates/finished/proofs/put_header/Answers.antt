-- `finished::put_header` meets its contract: its four pieces stand one behind the other, and behind each there is room for the next.
use Rattle.finished.specs.Finished.{header_bytes}
use Rattle.laws.proofs.Appends.{room_here, room_next, append_more}
use Rattle.finished.proofs.put_header.Goals as goal

pub push-requires : goal.push-requires
unfolding header_bytes
push-requires c = rw c.first_byte.ensures (room_here _ c.requires)

pub put_number-requires : goal.put_number-requires
unfolding header_bytes
put_number-requires c =
    let first = rw c.first_byte.ensures at c.push.ensures.appended in
    room_here _ (room_next first c.requires)

pub push-requires-2 : goal.push-requires-2
unfolding header_bytes
push-requires-2 c =
    let first = rw c.first_byte.ensures at c.push.ensures.appended in
    rw c.widths_byte.ensures (room_here _ (room_next c.put_number.ensures.appended (room_next first c.requires)))

pub put_ids-requires : goal.put_ids-requires
unfolding header_bytes
put_ids-requires c =
    let first = rw c.first_byte.ensures at c.push.ensures.appended in
    let widths = rw c.widths_byte.ensures at c.push-2.ensures.appended in
    room_next widths (room_next c.put_number.ensures.appended (room_next first c.requires))

pub returns-clause-appended : goal.returns-clause-appended
unfolding header_bytes
returns-clause-appended c =
    let first = rw c.first_byte.ensures at c.push.ensures.appended in
    let widths = rw c.widths_byte.ensures at c.push-2.ensures.appended in
    let behind_first = room_next first c.requires in
    let behind_length = room_next c.put_number.ensures.appended behind_first in
    append_more c.requires first
    (append_more behind_first c.put_number.ensures.appended (append_more behind_length widths c.put_ids.ensures.appended))
