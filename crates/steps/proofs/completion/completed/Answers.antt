-- `steps::completion::completed` meets its contract: the step picks the branch.
use mathlib.Core.Path.{sym}
use borrow.Author.Tests.{not-true, not-false}
use Rattle.transfer.proofs.Steps.{same_completion}
use Rattle.steps.specs.Busy.{ended_of}
use Rattle.steps.proofs.completion.completed.Goals as goal

pub returns-then-ne : goal.returns-then-ne
unfolding ended_of
returns-then-ne c = rw (← same_completion c.args.d.state.step, not-true _ (sym c.if-ne.ensures))

pub returns : goal.returns
unfolding ended_of
returns c = rw (← same_completion c.args.d.state.step, not-false _ (sym c.if-ne.ensures), ← c.transfer_completion-done.ensures)
