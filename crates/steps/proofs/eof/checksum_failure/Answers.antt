-- `steps::eof::checksum_failure` meets its contract: a handler that ignores starts the wait; any other has its effect.
use Rattle.transfer.specs.Fault.{declared_of}
use Rattle.steps.specs.Eof.{failed_of}
use Rattle.steps.proofs.eof.checksum_failure.Goals as goal

pub returns-then-ignored : goal.returns-then-ignored
unfolding failed_of declared_of
returns-then-ignored c = rw (c.start_check_limit_handling.ensures, c.declare_fault-fault.ensures, ← c.ignored.ensures, c.if-ignored.true)

pub returns : goal.returns
unfolding failed_of declared_of
returns c = rw (c.declare_fault-fault.ensures, ← c.ignored.ensures, c.if-ignored.false)
