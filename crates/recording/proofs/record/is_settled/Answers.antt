-- `recording::record::is_settled` meets its contract: the tests are the parts of the definition.
use native.Mathlib.Omega.{arith}
use lib.ListN.{length}
use borrow.Author.Tests.{le-leb, lt-leb, lt-ltb, le-ltb}
use Rattle.recording.specs.Record.{record_whole, record_settled}
use Rattle.recording.proofs.record.is_settled.Goals as goal

pub returns-then-s-eq0 : goal.returns-then-s-eq0
unfolding record_settled record_whole
returns-then-s-eq0 c = rw (lt-leb 1 (length c.args.s.now) (omega arith), lt-leb 2 (length c.args.s.now) (omega arith))

pub returns-then-byte-gt1 : goal.returns-then-byte-gt1
unfolding record_settled
returns-then-byte-gt1 c = rw (le-leb 1 (length c.args.s.now) (omega arith), lt-ltb 1 _ (rw c.byte.ensures at c.if-byte-gt1.true))

pub returns-then-s-lt2 : goal.returns-then-s-lt2
unfolding record_settled record_whole
returns-then-s-lt2 c =
    rw (le-leb 1 (length c.args.s.now) (omega arith), le-ltb 1 _ (rw c.byte.ensures at c.if-byte-gt1.false), lt-leb 2 (length c.args.s.now) (omega arith))

pub returns-then-byte-gt1-2 : goal.returns-then-byte-gt1-2
unfolding record_settled
returns-then-byte-gt1-2 c =
    rw (le-leb 1 (length c.args.s.now) (omega arith), le-ltb 1 _ (rw c.byte.ensures at c.if-byte-gt1.false), le-leb 2 (length c.args.s.now) (omega arith), lt-ltb 1 _ (rw c.byte-2.ensures at c.if-byte-gt1-2.true))

pub returns : goal.returns
unfolding record_settled
returns c =
    rw (le-leb 1 (length c.args.s.now) (omega arith), le-ltb 1 _ (rw c.byte.ensures at c.if-byte-gt1.false), le-leb 2 (length c.args.s.now) (omega arith), le-ltb 1 _ (rw c.byte-2.ensures at c.if-byte-gt1-2.false)) c.is_whole.ensures
