-- `quick::after_file_data` meets its contract: the answer picks the branch.
use borrow.Author.Tests.{ne_eqb}
use Rattle.codes.proofs.Refusals.{number-zero, other-19, is-19}
use Rattle.quick.specs.Quick.{taken_quick}
use Rattle.quick.proofs.after_file_data.Goals as goal

pub returns-in-Ok : goal.returns-in-Ok
unfolding taken_quick
returns-in-Ok c = rw (c.in-Ok.is, c.segment_recvd_indication.ensures)

pub returns-then-ne : goal.returns-then-ne
unfolding taken_quick
returns-then-ne c = rw (c.in-Err.is, other-19 _ c.if-ne.ensures, ne_eqb _ 0 (number-zero c.in-Err.refusal))

pub returns : goal.returns
unfolding taken_quick
returns c = rw (c.in-Err.is, is-19 _ c.if-ne.ensures)
