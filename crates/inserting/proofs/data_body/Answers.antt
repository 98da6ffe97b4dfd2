-- `inserting::data_body` meets its contract: the place, then the body.
use mathlib.Core.Path.{sym, ◌∙◌}
use native.Mathlib.Omega.{arith}
use Rattle.codes.proofs.Refusals.{number-zero, ok_none, err_told, passed, unless-test}
use Rattle.bodies.specs.FileData.{file_data_of}
use Rattle.inserting.proofs.Laws.{place_first, body_next}
use Rattle.inserting.proofs.data_body.Goals as goal

pub returns-in_err-misplaced : goal.returns-in_err-misplaced
returns-in_err-misplaced c =
    let a = c.args in
    let told = err_told (rw c.takes_data.ensures at c.misplaced.ensures) c.in_err-misplaced.was in
    passed _ _ _ _ c.from_residual.ensures.1
    (told ∙ sym (place_first a.t a.c a.metadata a.field.now (λ z. number-zero _ (told ∙ z))))

pub returns : goal.returns
unfolding file_data_of
returns c =
    let a = c.args in
    let none = ok_none (rw c.takes_data.ensures at c.misplaced.ensures) c.in_ok-misplaced.was in
    c.read.ensures ∙ rw (body_next a.t a.c a.metadata a.field.now none) (unless-test _ 14 _ (λ z. omega arith))
