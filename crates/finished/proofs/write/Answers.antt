-- `finished::write` meets its contract: a buffer that is large enough has room for header and data field, one behind the other.
use Prim.Native.Nat.{ℕ, ◌≤◌}
use mathlib.Core.List.{List}
use mathlib.Core.Path.{◌≡◌, sym}
use native.Mathlib.Omega.{arith}
use native.Mathlib.Nat.{zero-add}
use lib.ListN.{length}
use Rattle.header.specs.declared.CommonPduConfig.{CommonPduConfig}
use Rattle.codes.specs.Refusals.{Good}
use Rattle.laws.specs.Appending.{Room}
use Rattle.finished.specs.Finished.{out_size, finished_bytes, Sent, sent}
use Rattle.finished.specs.declared.EntityId.{EntityId}
use Rattle.finished.specs.declared.FinishedPdu.{FinishedPdu}
use Rattle.laws.proofs.Pasting.{pasted-start}
use Rattle.laws.proofs.Appends.{room_here, room_next, append_more}
use Rattle.finished.proofs.Laws.{finished_short, finished_long}
use Rattle.finished.proofs.Lengths.{finished_at_most}
use Rattle.std.proofs.Common.{rules}
use Rattle.finished.proofs.write.Goals as goal

-- a buffer of the least size has room for the whole PDU
room : (out : List ℕ) (conf : CommonPduConfig) (f : FinishedPdu) (local : EntityId) → out_size ≤ length out → Room out 0 (finished_bytes conf f local)
room out conf f local h = record { fits = omega (arith, finished_at_most conf f local) }

-- the buffer that comes back is the one that the cursor held
handed : (out : List ℕ) {at : ℕ} {back : List ℕ} {s : Sent} → back ≡ out → sent (Good at) out ≡ s → sent (Good at) back ≡ s
handed out e h = rw e h

pub returns-then-out-lt-OUT_SIZE : goal.returns-then-out-lt-OUT_SIZE
returns-then-out-lt-OUT_SIZE c = sym (finished_short _ _ _ _ c.if-out-lt-OUT_SIZE.true)

pub put_header-requires : goal.put_header-requires
unfolding finished_bytes
put_header-requires c =
    let a = c.args in
    rw c.body_len.ensures (room_here _ (room a.out.now a.conf a.f a.local c.if-out-lt-OUT_SIZE.false))

pub put_body-requires : goal.put_body-requires
unfolding finished_bytes
put_body-requires c =
    let a = c.args in
    let head = rw c.body_len.ensures at c.put_header.ensures.appended in
    room_next head (room a.out.now a.conf a.f a.local c.if-out-lt-OUT_SIZE.false)

pub returns : goal.returns
unfolding finished_bytes
returns c =
    let a = c.args in
    let head = rw c.body_len.ensures at c.put_header.ensures.appended in
    let pdu = append_more (room a.out.now a.conf a.f a.local c.if-out-lt-OUT_SIZE.false) head c.put_body.ensures.appended in
    handed c.put_body.new.c.buffer.now (search rules)
    (rw (finished_long _ _ _ _ c.if-out-lt-OUT_SIZE.false, pdu.ends, pdu.bytes, pasted-start, zero-add))
