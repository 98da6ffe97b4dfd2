-- `dest::after_insert` meets its contract: the answer picks the case.
use borrow.Author.Tests.{ne_eqb}
use Rattle.codes.proofs.Refusals.{number-zero, other-19, is-19}
use Rattle.dest.specs.Call.{after_insert, busy_call, ran_of, refused_of}
use Rattle.dest.proofs.after_insert.Goals as goal

pub returns-in-Ok : goal.returns-in-Ok
unfolding after_insert busy_call ran_of
returns-in-Ok c = rw c.in-Ok.is c.run.ensures

pub returns-then-ne : goal.returns-then-ne
unfolding after_insert refused_of
returns-then-ne c = rw (c.in-Err.is, ne_eqb _ 0 (number-zero c.in-Err.refusal), other-19 _ c.if-ne.ensures, c.unchanged.ensures)

pub returns : goal.returns
unfolding after_insert refused_of
returns c = rw (c.in-Err.is, ne_eqb _ 0 (number-zero c.in-Err.refusal), is-19 _ c.if-ne.ensures, c.settle_in.ensures)
