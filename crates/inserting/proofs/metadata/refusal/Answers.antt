-- `inserting::metadata::refusal` meets its contract: 15, then the names, then the option.
use Prim.Native.Nat.{ℕ}
use mathlib.Core.Path.{◌≡◌, sym, ap, ◌∙◌}
use mathlib.Core.Bool.{Bool, true}
use mathlib.Core.List.{List, [], ◌∷◌, ◌++◌}
use Rattle.codes.specs.Refusals.{refusal_of}
use Rattle.codes.proofs.Refusals.{number-zero, ok_none, err_told, handed_on}
use Rattle.laws.specs.First.{first_of}
use Rattle.bodies.specs.Metadata.{name_at}
use Rattle.bodies.specs.declared.metadata.MetadataPdu.{MetadataPdu}
use Rattle.config.specs.declared.Config.{Config}
use Rattle.inserting.proofs.Laws.{names_next, names_first, option_next}
use Rattle.laws.proofs.Tests.{cond-true, cond-false}
use Rattle.inserting.specs.Metadata.{remote_known, names_order, rest_order, rest_refusal}
use Rattle.inserting.proofs.metadata.refusal.Goals as goal

-- what the names tell, by their places in the body
named : {a b x y : List ℕ} {n : ℕ} → a ≡ x → b ≡ y → n ≡ first_of (names_order a b) → n ≡ first_of (names_order x y)
named p q e = rw (p, q) at e

-- the source has an entry, so the names and the option are left
left : {b : Bool} (g : Config) (source : ℕ) (d : List ℕ) (m : MetadataPdu) → b ≡ remote_known g source → b ≡ true → rest_refusal g source d m ≡ first_of (names_order (name_at d m.sourceat) (name_at d m.destat) ++ ((10, m.message) ∷ []))
left g source d m e known = names_next g source d m (sym e ∙ known)

pub returns-then-not-known : goal.returns-then-not-known
unfolding rest_refusal rest_order
returns-then-not-known c = rw (← c.known.ensures, c.if-not-known.true)

pub returns-in_err-names_refusal : goal.returns-in_err-names_refusal
returns-in_err-names_refusal c =
    let n = err_told (named c.name.ensures.result_value c.name-2.ensures.result_value c.names_refusal.ensures) c.in_err-names_refusal.was in
    ap refusal_of (handed_on c.from_residual.ensures.1)
    ∙ n
    ∙ sym (names_first _ _ _ (λ z. number-zero _ (n ∙ z)))
    ∙ sym (left _ _ _ _ c.known.ensures c.if-not-known.false)

pub returns-then-m : goal.returns-then-m
returns-then-m c =
    let n = ok_none (named c.name.ensures.result_value c.name-2.ensures.result_value c.names_refusal.ensures) c.in_ok-names_refusal.was in
    sym (left _ _ _ _ c.known.ensures c.if-not-known.false ∙ option_next _ _ _ n ∙ cond-true c.if-m.true 10 0)

pub returns : goal.returns
returns c =
    let n = ok_none (named c.name.ensures.result_value c.name-2.ensures.result_value c.names_refusal.ensures) c.in_ok-names_refusal.was in
    sym (left _ _ _ _ c.known.ensures c.if-not-known.false ∙ option_next _ _ _ n ∙ cond-false c.if-m.false 10 0)
