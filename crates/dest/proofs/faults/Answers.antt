-- `dest::faults` meets its contract: each handler is looked up.
use Rattle.dest.specs.Call.{faults_of}
use Rattle.dest.proofs.faults.Goals as goal

pub returns : goal.returns
unfolding faults_of
returns c = rw (c.handler.ensures, c.handler-2.ensures, c.handler-3.ensures, c.handler-4.ensures, c.handler-5.ensures)
