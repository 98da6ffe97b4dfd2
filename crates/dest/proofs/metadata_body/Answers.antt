-- `dest::metadata_body` meets its contract: the refusals before the body, the body's, those behind it, or the body.
use mathlib.Core.Path.{sym, ap, ◌∙◌}
use Rattle.codes.specs.Refusals.{Good}
use Rattle.codes.proofs.Refusals.{ok_none, err_told, good_unless, passed}
use Rattle.bodies.proofs.metadata.Laws.{good_metadata, refused-metadata}
use Rattle.dest.specs.Metadata.{metadata_order, metadata_refusal}
use Rattle.dest.proofs.Laws.{rest_next}
use Rattle.dest.proofs.metadata_body.Goals as goal

pub returns-then-is_busy : goal.returns-then-is_busy
unfolding metadata_refusal metadata_order
returns-then-is_busy c = rw (← c.is_busy.ensures, c.if-is_busy.true)

pub returns-then-not-conf : goal.returns-then-not-conf
unfolding metadata_refusal metadata_order
returns-then-not-conf c = rw (← c.is_busy.ensures, c.if-is_busy.false, c.if-not-conf.true)

pub returns-in_err-m : goal.returns-in_err-m
unfolding metadata_refusal metadata_order
returns-in_err-m c =
    let told = refused-metadata _ _ _ c.read.ensures _ c.in_err-m.was in
    passed _ _ _ _ c.from_residual.ensures.1 (told.1 ∙ rw (← c.is_busy.ensures, c.if-is_busy.false, c.if-not-conf.false, told.0))

pub returns-in_err-refusal : goal.returns-in_err-refusal
returns-in_err-refusal c =
    let g = good_metadata _ _ _ c.read.ensures _ c.in_ok-m.was in
    let told = err_told c.refusal.ensures c.in_err-refusal.was in
    passed _ _ _ _ c.from_residual-in_err-refusal.ensures.1
    (told ∙ rw g.1 (sym (rest_next _ _ _ (sym c.is_busy.ensures ∙ c.if-is_busy.false) c.if-not-conf.false g.0)))

pub returns : goal.returns
returns c =
    let g = good_metadata _ _ _ c.read.ensures _ c.in_ok-m.was in
    let none = ok_none c.refusal.ensures c.in_ok-refusal.was in
    ap Good g.1 ∙ good_unless _ _
    (rest_next _ _ _ (sym c.is_busy.ensures ∙ c.if-is_busy.false) c.if-not-conf.false g.0 ∙ rw g.1 at none)
