-- `inserting::segment_inserted` meets its contract: the answer picks the case.
use borrow.Author.Tests.{ne_eqb}
use Rattle.codes.proofs.Refusals.{number-zero, other-19, is-19}
use Rattle.transfer.specs.Fault.{declared_of}
use Rattle.inserting.specs.FileData.{segment_inserted}
use Rattle.inserting.proofs.segment_inserted.Goals as goal

pub returns-in-Ok : goal.returns-in-Ok
unfolding segment_inserted
returns-in-Ok c = rw (c.in-Ok.is, c.segment_recvd_indication.ensures)

pub returns-then-ne : goal.returns-then-ne
unfolding segment_inserted
returns-then-ne c =
    rw
    (c.in-Err.is, ne_eqb _ 0 (number-zero c.in-Err.refusal), other-19 _ c.if-ne.ensures, c.left_alone.ensures)

pub returns : goal.returns
unfolding segment_inserted declared_of
returns c =
    rw
    (c.in-Err.is, ne_eqb _ 0 (number-zero c.in-Err.refusal), is-19 _ c.if-ne.ensures, c.declare_fault-fault.ensures, c.segment_recvd_indication-2.ensures)
