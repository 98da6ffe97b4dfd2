-- `transfer::verify::unsupported` meets its contract: an abandoned transfer ends the call's work; else delivery is complete.
use borrow.Author.Tests.{eq-eqb, ne_eqb}
use Rattle.transfer.specs.Fault.{declared_of}
use Rattle.transfer.specs.Verify.{unsupported_of}
use Rattle.transfer.proofs.verify.unsupported.Goals as goal

pub returns-then-handler-eq-ABANDON_TRANSACTION : goal.returns-then-handler-eq-ABANDON_TRANSACTION
unfolding unsupported_of declared_of
returns-then-handler-eq-ABANDON_TRANSACTION c = rw (c.declare_fault-fault.ensures, eq-eqb _ _ c.if-handler-eq-ABANDON_TRANSACTION.true)

pub returns : goal.returns
unfolding unsupported_of declared_of
returns c = rw (c.with_delivery.ensures, c.declare_fault-fault.ensures, ne_eqb _ _ c.if-handler-eq-ABANDON_TRANSACTION.false)
