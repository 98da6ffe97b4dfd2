-- `transfer::fault::declare_fault` meets its contract: the effect and the report, put together.
use Rattle.transfer.specs.Fault.{declared_of}
use Rattle.transfer.proofs.fault.declare_fault.Goals as goal

pub returns : goal.returns
unfolding declared_of
returns c = rw (c.effect.ensures, c.id.ensures)
