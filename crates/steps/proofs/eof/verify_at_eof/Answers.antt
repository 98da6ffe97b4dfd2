-- `steps::eof::verify_at_eof` meets its contract: the verdict picks the case.
use Rattle.steps.specs.Eof.{eof_verified}
use Rattle.steps.proofs.eof.verify_at_eof.Goals as goal

pub returns-in-Good : goal.returns-in-Good
unfolding eof_verified
returns-in-Good c = rw (← c.checksum_verify-verified.ensures, c.in-Good.is, c.at_step.ensures)

pub returns-in-Bad : goal.returns-in-Bad
unfolding eof_verified
returns-in-Bad c = rw (← c.checksum_verify-verified.ensures, c.in-Bad.is) c.checksum_failure.ensures

pub returns-in-Ended : goal.returns-in-Ended
unfolding eof_verified
returns-in-Ended c = rw (← c.checksum_verify-verified.ensures, c.in-Ended.is)
