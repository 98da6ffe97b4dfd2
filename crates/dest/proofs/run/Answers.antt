-- `dest::run` meets its contract: the busy steps by what its callees ensure.
use Rattle.dest.specs.Call.{busy_call, ran_of}
use Rattle.dest.proofs.run.Goals as goal

pub returns : goal.returns
unfolding busy_call ran_of
returns c = rw (c.settle_in.ensures, ← c.remote-far.ensures, ← c.faults.ensures, ← c.fsm_busy-busy.ensures)
