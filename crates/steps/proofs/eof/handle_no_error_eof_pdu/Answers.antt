-- `steps::eof::handle_no_error_eof_pdu` meets its contract: progress above the size is fault 6, which may end the handling; else the sum decides.
use borrow.Author.Tests.{lt-ltb, le-ltb}
use Rattle.transfer.specs.Fault.{declared_of}
use Rattle.steps.specs.Eof.{eof_handled_of}
use Rattle.steps.proofs.eof.handle_no_error_eof_pdu.Goals as goal

pub returns-then-ignored : goal.returns-then-ignored
unfolding eof_handled_of declared_of
returns-then-ignored c =
    rw (lt-ltb _ _ c.if-eof-t.true, ← c.ignored.ensures, c.if-ignored.true) (rw c.declare_fault-fault.ensures at c.verify_at_eof.ensures)

pub returns-then-eof-t : goal.returns-then-eof-t
unfolding eof_handled_of declared_of
returns-then-eof-t c = rw (c.declare_fault-fault.ensures, lt-ltb _ _ c.if-eof-t.true, ← c.ignored.ensures, c.if-ignored.false)

pub returns : goal.returns
unfolding eof_handled_of
returns c = rw (le-ltb _ _ c.if-eof-t.false) c.verify_at_eof-2.ensures
