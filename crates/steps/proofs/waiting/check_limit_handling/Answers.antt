-- `steps::waiting::check_limit_handling` meets its contract: the verdict picks the case.
use Rattle.steps.specs.Waiting.{check_of}
use Rattle.steps.proofs.waiting.check_limit_handling.Goals as goal

pub returns-in-Good : goal.returns-in-Good
unfolding check_of
returns-in-Good c = rw (← c.checksum_verify-verified.ensures, c.in-Good.is, c.at_step.ensures)

pub returns-in-Bad : goal.returns-in-Bad
unfolding check_of
returns-in-Bad c = rw (← c.checksum_verify-verified.ensures, c.in-Bad.is) c.at_limit.ensures

pub returns-in-Ended : goal.returns-in-Ended
unfolding check_of
returns-in-Ended c = rw (← c.checksum_verify-verified.ensures, c.in-Ended.is)
