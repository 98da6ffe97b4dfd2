-- `dest::poll` meets its contract: refused, idle, or the busy steps.
use borrow.Author.Tests.{ne_eqb}
use Rattle.codes.proofs.Refusals.{number-zero, ok_none, err_told}
use Rattle.dest.specs.Call.{call_of, poll_call}
use Rattle.dest.proofs.poll.Goals as goal

pub returns-in-Err : goal.returns-in-Err
unfolding call_of poll_call
returns-in-Err c =
    rw (c.unchanged.ensures, ← err_told c.unfit.ensures c.in-Err.is, ne_eqb _ 0 (number-zero c.in-Err.refusal))

pub returns-then-not-is_busy : goal.returns-then-not-is_busy
unfolding call_of poll_call
returns-then-not-is_busy c =
    rw (c.unchanged-then-not-is_busy.ensures, ok_none c.unfit.ensures c.in_default.is, ← c.is_busy.ensures, c.if-not-is_busy.true)

pub returns : goal.returns
unfolding call_of poll_call
returns c =
    rw (ok_none c.unfit.ensures c.in_default.is, ← c.is_busy.ensures, c.if-not-is_busy.false, ← c.left_alone.ensures) c.run.ensures
