-- `transfer::segment::handle_segment` meets its contract: the refusal that was told picks the case.
use borrow.Author.Tests.{ne_eqb}
use Rattle.codes.proofs.Refusals.{number-zero, ok_none, err_told, handed_on}
use Rattle.transfer.specs.Put.{put_of, put_by}
use Rattle.transfer.proofs.segment.Laws.{progress_fits}
use Rattle.transfer.proofs.segment.handle_segment.Goals as goal

pub returns-in_err-segment_refusal : goal.returns-in_err-segment_refusal
unfolding put_of put_by
returns-in_err-segment_refusal c =
    rw
    (handed_on c.from_residual.ensures.1, ← err_told c.segment_refusal.ensures c.in_err-segment_refusal.was, ne_eqb _ 0 (number-zero c.in_err-segment_refusal.field-0.0))

pub overflow_add-progress : goal.overflow_add-progress
overflow_add-progress c = record { fits = progress_fits _ _ _ _ (ok_none c.segment_refusal.ensures c.in_ok-segment_refusal.was) }

pub returns : goal.returns
unfolding put_of put_by
returns c =
    rw (ok_none c.segment_refusal.ensures c.in_ok-segment_refusal.was, ← c.write_segment-length.ensures)
