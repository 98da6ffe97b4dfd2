-- `recording::record::is_whole` meets its contract: the tests are the parts of the definition.
use borrow.Author.Tests.{le-leb, lt-leb, eq-eqb, ne_eqb}
use Rattle.recording.specs.Record.{record_whole}
use Rattle.recording.proofs.record.is_whole.Goals as goal

pub returns-then-s-lt2 : goal.returns-then-s-lt2
unfolding record_whole
returns-then-s-lt2 c = rw (lt-leb 2 _ c.if-s-lt2.true)

pub returns-then-byte-gt1 : goal.returns-then-byte-gt1
unfolding record_whole
returns-then-byte-gt1 c = rw (le-leb 2 _ c.if-s-lt2.false, lt-leb _ 1 (rw c.byte.ensures at c.if-byte-gt1.true))

pub returns-then-byte-gt1-2 : goal.returns-then-byte-gt1-2
unfolding record_whole
returns-then-byte-gt1-2 c =
    rw (le-leb 2 _ c.if-s-lt2.false, le-leb _ 1 (rw c.byte.ensures at c.if-byte-gt1.false), lt-leb _ 1 (rw c.byte-2.ensures at c.if-byte-gt1-2.true))

pub returns-then-byte-eq0 : goal.returns-then-byte-eq0
unfolding record_whole
returns-then-byte-eq0 c =
    rw (le-leb 2 _ c.if-s-lt2.false, le-leb _ 1 (rw c.byte.ensures at c.if-byte-gt1.false), le-leb _ 1 (rw c.byte-2.ensures at c.if-byte-gt1-2.false), eq-eqb _ 0 (rw c.byte-3.ensures at c.if-byte-eq0.true))

pub returns-then-s-lt-PDU_START : goal.returns-then-s-lt-PDU_START
unfolding record_whole
returns-then-s-lt-PDU_START c =
    rw (le-leb 2 _ c.if-s-lt2.false, le-leb _ 1 (rw c.byte.ensures at c.if-byte-gt1.false), le-leb _ 1 (rw c.byte-2.ensures at c.if-byte-gt1-2.false), ne_eqb _ 0 (rw c.byte-3.ensures at c.if-byte-eq0.false), lt-leb 4 _ c.if-s-lt-PDU_START.true)

pub returns : goal.returns
unfolding record_whole
returns c =
    rw (le-leb 2 _ c.if-s-lt2.false, le-leb _ 1 (rw c.byte.ensures at c.if-byte-gt1.false), le-leb _ 1 (rw c.byte-2.ensures at c.if-byte-gt1-2.false), ne_eqb _ 0 (rw c.byte-3.ensures at c.if-byte-eq0.false), le-leb 4 _ c.if-s-lt-PDU_START.false, c.pdu_length.ensures.value)
