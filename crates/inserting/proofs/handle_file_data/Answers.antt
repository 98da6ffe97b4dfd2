-- `inserting::handle_file_data` meets its contract: the body, then the segment.
use borrow.Author.Tests.{eq-eqb, ne_eqb}
use Rattle.codes.proofs.Refusals.{number-zero, ok_tells, err_tells}
use Rattle.inserting.specs.FileData.{taken_of}
use Rattle.inserting.proofs.handle_file_data.Goals as goal

pub returns-in_default : goal.returns-in_default
unfolding taken_of
returns-in_default c =
    let told = err_tells _ _ _ _ c.data_body-read.ensures c.unwrap_err.ensures in
    rw (c.not_taken.ensures, ← told, ne_eqb _ 0 (number-zero c.unwrap_err.result))

pub returns : goal.returns
unfolding taken_of
returns c =
    let g = ok_tells _ _ _ _ c.data_body-read.ensures c.in-Ok.is in
    let k = rw (c.segment-segment.ensures, g.1) at c.handle_segment.ensures in
    rw (eq-eqb _ 0 g.0, ← k, c.segment-segment.ensures, g.1)
