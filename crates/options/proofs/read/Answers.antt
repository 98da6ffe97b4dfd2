-- `options::read` meets its contract. The loop's invariant: the walk from the present place, with what was seen of Messages to
-- User, finds what the walk from the first place finds. The measure is what is left of the length.
use Prim.Native.Nat.{ℕ, ◌-◌, ◌<◌}
use mathlib.Core.Path.{◌≡◌, refl, sym, ap, ◌∙◌}
use mathlib.Core.Bool.{Bool, true, false, ◌||◌, false≢true}
use native.Mathlib.Omega.{arith}
use mathlib.Core.List.{List}
use lib.Dec.{eqb}
use lib.ListN.{length}
use Rattle.std.specs.Prelude.{Option, Some, Ok}
use Rattle.options.specs.declared.Tlv.{Tlv}
use Rattle.options.specs.Options.{Step, whole_option, options_of, tlv_at}
use Rattle.options.proofs.Walk.{walked, whole-step}
use Rattle.options.proofs.read.Goals as goal

-- once a Message to User is seen, no later option changes that
seen : (message other : Bool) → message ≡ true → (message || other) ≡ message
seen true other e = refl
seen false other e = absurd (false≢true e)

-- a whole option: what the step there says of it, and where it ends
whole : {r : Step} {o : Option Tlv} {t : Tlv} → r ≡ Ok o → o ≡ Some t → r ≡ whole_option t.kind t.next
whole e is = e ∙ ap Ok is

-- it ends behind the place where it begins, and within the field
falls : (s : List ℕ) (at : ℕ) {kind next : ℕ} {r : Step} → r ≡ tlv_at s at → r ≡ whole_option kind next → length s - next < length s - at
falls s at e is = let ends = whole-step s at _ _ (sym e ∙ is) in omega arith

pub loop-step-init : goal.loop-step-init
unfolding options_of
loop-step-init c = refl

pub loop-step-smaller-then-message : goal.loop-step-smaller-then-message
loop-step-smaller-then-message c = falls _ _ c.option_at.ensures.found (whole c.in-Ok.is c.in-Some.is)

pub loop-step-preserved-then-message : goal.loop-step-preserved-then-message
loop-step-preserved-then-message c =
    rw (seen c.loop-step.message (eqb c.in-Some.tlv.kind 2) c.if-message.true)
    at (walked _ _ _ c.option_at.ensures.found (whole c.in-Ok.is c.in-Some.is) c.loop-step.invariant)

pub loop-step-smaller : goal.loop-step-smaller
loop-step-smaller c = falls _ _ c.option_at.ensures.found (whole c.in-Ok.is c.in-Some.is)

pub loop-step-preserved : goal.loop-step-preserved
loop-step-preserved c =
    rw c.if-message.false
    at (walked _ _ _ c.option_at.ensures.found (whole c.in-Ok.is c.in-Some.is) c.loop-step.invariant)

pub returns-in_default : goal.returns-in_default
returns-in_default c = walked _ _ _ c.option_at.ensures.found (c.in-Ok.is ∙ ap Ok c.in_default.is) c.loop-step.invariant

pub returns-in-Err : goal.returns-in-Err
returns-in-Err c = walked _ _ _ c.option_at.ensures.found c.in-Err.is c.loop-step.invariant
