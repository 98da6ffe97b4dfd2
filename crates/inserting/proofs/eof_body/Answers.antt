-- `inserting::eof_body` meets its contract: the place, then the body.
use mathlib.Core.Path.{sym, ◌∙◌}
use Rattle.codes.proofs.Refusals.{number-zero, ok_none, err_told, passed}
use Rattle.transfer.proofs.Steps.{same_receiving}
use Rattle.bodies.specs.Eof.{eof_of}
use Rattle.inserting.proofs.Laws.{eof_place_first, eof_body_next}
use Rattle.inserting.proofs.eof_body.Goals as goal

pub returns-in_err-misplaced : goal.returns-in_err-misplaced
returns-in_err-misplaced c =
    let a = c.args in
    let told = err_told (rw (c.eq.ensures, same_receiving c.args.t.step) at c.misplaced.ensures) c.in_err-misplaced.was in
    passed _ _ _ _ c.from_residual.ensures.1 (told ∙ sym (eof_place_first a.t a.c a.field.now (λ z. number-zero _ (told ∙ z))))

pub returns : goal.returns
unfolding eof_of
returns c =
    let a = c.args in
    let none = ok_none (rw (c.eq.ensures, same_receiving c.args.t.step) at c.misplaced.ensures) c.in_ok-misplaced.was in
    c.read.ensures ∙ rw (eof_body_next a.t a.c a.field.now none)
