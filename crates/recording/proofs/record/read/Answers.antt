-- `recording::record::read` meets its contract: the end, a bad record, a poll or a PDU.
use borrow.Author.Tests.{eq-eqb, ne_eqb}
use Rattle.recording.specs.Record.{record_of}
use Rattle.recording.proofs.record.read.Goals as goal

pub returns-then-s-eq0 : goal.returns-then-s-eq0
unfolding record_of
returns-then-s-eq0 c = rw (eq-eqb _ 0 c.if-s-eq0.true)

pub returns-then-not-is_whole : goal.returns-then-not-is_whole
unfolding record_of
returns-then-not-is_whole c = rw (ne_eqb _ 0 c.if-s-eq0.false, ← c.is_whole.ensures, c.if-not-is_whole.true)

pub returns-then-byte-eq0 : goal.returns-then-byte-eq0
unfolding record_of
returns-then-byte-eq0 c =
    rw (ne_eqb _ 0 c.if-s-eq0.false, ← c.is_whole.ensures, c.if-not-is_whole.false, eq-eqb _ 0 (rw c.byte.ensures at c.if-byte-eq0.true), c.byte-timer.ensures)

pub returns : goal.returns
unfolding record_of
returns c =
    rw (ne_eqb _ 0 c.if-s-eq0.false, ← c.is_whole.ensures, c.if-not-is_whole.false, ne_eqb _ 0 (rw c.byte.ensures at c.if-byte-eq0.false), c.byte-timer.ensures, c.pdu_length.ensures.value)
