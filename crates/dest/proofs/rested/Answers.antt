-- `dest::rested` meets its contract: the step, then the answer.
use mathlib.Core.Path.{sym, ◌∙◌}
use Rattle.transfer.proofs.Steps.{same_receiving}
use Rattle.dest.proofs.rested.Goals as goal

pub returns-then-eq : goal.returns-then-eq
returns-then-eq c = rw (c.ok.ensures.value, sym (c.if-eq.ensures ∙ same_receiving c.args.step))

pub returns : goal.returns
returns c = rw (sym (c.if-eq.ensures ∙ same_receiving c.args.step))
