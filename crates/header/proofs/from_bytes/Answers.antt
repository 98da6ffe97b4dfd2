-- `header::from_bytes` meets its contract: the refusal that was found is told, or there is none and the fields are those of the definition.
use mathlib.Core.Path.{ap, sym, ◌∙◌}
use Rattle.codes.specs.Refusals.{Good, refusal_of}
use Rattle.codes.proofs.Refusals.{good_unless, passed}
use Rattle.header.specs.Header.{header_of}
use Rattle.header.proofs.from_bytes.Goals as goal

pub returns-in_err-first_refusal : goal.returns-in_err-first_refusal
unfolding header_of
returns-in_err-first_refusal c =
    passed _ _ _ _ c.from_residual.ensures.1 (sym (ap refusal_of c.in_err-first_refusal.was) ∙ c.first_refusal.ensures)

pub returns : goal.returns
unfolding header_of
returns c =
    ap Good c.fields.ensures ∙ good_unless _ _ (sym c.first_refusal.ensures ∙ ap refusal_of c.in_ok-first_refusal.was)
