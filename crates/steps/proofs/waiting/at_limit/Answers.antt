-- `steps::waiting::at_limit` meets its contract: at the limit the fault is declared, below it one more is counted.
use borrow.Author.Tests.{le-leb, lt-leb}
use Rattle.steps.specs.Waiting.{limit_of}
use Rattle.steps.proofs.waiting.at_limit.Goals as goal

pub returns-then-limit-count : goal.returns-then-limit-count
unfolding limit_of
returns-then-limit-count c = rw (le-leb _ _ c.if-limit-count.true) c.declare_fault.ensures

pub returns : goal.returns
unfolding limit_of
returns c = rw (lt-leb _ _ c.if-limit-count.false)
