-- `text::record_text` meets its contract: the record's line, with the PDU's behind it where one was sent, was put at the start of zeros; both
-- fit, since the PDU is cut.
use Prim.Native.Nat.{zero-le}
use native.Mathlib.Omega.{arith}
use lib.Dec.{lit<}
use lib.ListN.{take}
use Rattle.std.proofs.Common.{rules}
use Rattle.text.specs.Text.{pdu_size}
use Rattle.text.proofs.Laws.{record_at_most, pdu_at_most, record_none, record_sent, no_shorter, append_then, text_of_lem}
use Rattle.text.proofs.record_text.Goals as goal

pub put_record-requires : goal.put_record-requires
put_record-requires c = omega (arith, record_at_most c.args.number c.args.answer 0 (omega arith) (lit< tt))

pub returns-then-sent-eq0 : goal.returns-then-sent-eq0
returns-then-sent-eq0 c =
    let a = c.args in
    rw (record_none a.number a.answer (take pdu_size a.pdu.now) (rw c.front-sent.ensures at c.if-sent-eq0.true))
    (text_of_lem c.put_record.ensures.appended (search rules))

pub put_record-requires-2 : goal.put_record-requires-2
put_record-requires-2 c = omega (arith, record_at_most c.args.number c.args.answer 1 (omega arith) (lit< tt))

pub put_pdu-requires : goal.put_pdu-requires
put_pdu-requires c =
    let a = c.args in
    let line = record_at_most a.number a.answer 1 (omega arith) (lit< tt) in
    rw c.front-sent.ensures (record { fits = omega (arith, line, pdu_at_most a.pdu.now, no_shorter c.put_record-2.ensures.appended) })

pub returns : goal.returns
returns c =
    let a = c.args in
    rw (record_sent a.number a.answer (take pdu_size a.pdu.now) (rw c.front-sent.ensures at c.if-sent-eq0.false))
    (text_of_lem (append_then zero-le c.put_record-2.ensures.appended (rw c.front-sent.ensures at c.put_pdu.ensures.appended)) (search rules))
