-- `steps::completion::fsm_busy` meets its contract: one step after the other.
use Rattle.steps.specs.Busy.{busy_of}
use Rattle.steps.proofs.completion.fsm_busy.Goals as goal

pub returns : goal.returns
unfolding busy_of
returns c = rw c.waited.ensures at c.completed.ensures
