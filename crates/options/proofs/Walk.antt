-- The walk over the options takes as many steps as there are: each step goes on by two bytes or more, so the bound on the steps never
-- runs out, and from any place the walk is the step there and the walk from the place behind it.
use Prim.Native.Nat.{ℕ, zero, suc, ◌+◌, ◌-◌, ◌<◌, ◌≤◌}
use mathlib.Core.Path.{◌≡◌, refl, ap}
use mathlib.Core.Bool.{Bool, true, false, cond, ◌||◌, false≢true}
use mathlib.Core.List.{List}
use native.Mathlib.Omega.{arith}
use lib.ListN.{length}
use lib.Dec.{leb, eqb}
use borrow.Author.Tests.{leb-true}
use Rattle.std.specs.Prelude.{Some, None, Ok, Err}
use Rattle.options.specs.Options.{Step, Walk, whole_option, no_option, bad_option, walked_to, option_type, option_end, option_whole, tlv_at, walk_from}
use Rattle.laws.proofs.Picked.{picked_first, picked_second, under}

-- a whole option ends two bytes further on or more, and within the body
pub whole-ends : (s : List ℕ) (at : ℕ) → option_whole s at ≡ true → (at + 2 ≤ option_end s at) × (option_end s at ≤ length s)
unfolding option_whole
whole-ends s at e =
    let p = picked_first (leb (at + 2) (length s)) false≢true e in
    (omega arith, leb-true (option_end s at) (length s) p.1)

-- any two bounds that are enough give the same walk
enough : (f g : ℕ) (s : List ℕ) (at : ℕ) (message : Bool) → length s - at < f → length s - at < g → walk_from f s at message ≡ walk_from g s at message
unfolding walk_from
enough zero g s at message p q = absurd (omega arith)
enough (suc f) zero s at message p q = absurd (omega arith)
enough (suc f) (suc g) s at message p q =
    ap (λ (w : Walk). cond (eqb at (length s)) (walked_to at message) w)
    (under (option_whole s at) (bad_option at)
    (λ e.
    let ends = whole-ends s at e in
    enough f g s (option_end s at) (message || eqb (option_type s at) 2) (omega arith) (omega arith)))

-- the walk from a place to the end
abbrev pub walk : List ℕ → ℕ → Bool → Walk
walk s at message = walk_from (suc (length s)) s at message

-- the bound on the steps never runs out: the walk is the step at its place, and the walk from the place behind it
pub never_out : (s : List ℕ) (at : ℕ) (message : Bool) → walk s at message ≡ cond (eqb at (length s)) (walked_to at message) (cond (option_whole s at) (walk s (option_end s at) (message || eqb (option_type s at) 2)) (bad_option at))
unfolding walk_from
never_out s at message = enough (suc (length s)) (suc (suc (length s))) s at message (omega arith) (omega arith)

-- what the walk finds after the step t at a place
abbrev pub walked_by : Step → List ℕ → ℕ → Bool → Walk
walked_by (Ok (Some t)) s at message = walk s t.next (message || eqb t.kind 2)
walked_by (Ok None) s at message = walked_to at message
walked_by (Err b) s at message = Err b

-- the two tests of the walk are those of the step
walked_by_lem : (end whole : Bool) (t : Step) (s : List ℕ) (at : ℕ) (message : Bool) → cond end (walked_to at message) (cond whole (walked_by t s at message) (bad_option at)) ≡ walked_by (cond end no_option (cond whole t (bad_option at))) s at message
walked_by_lem true whole t s at message = refl
walked_by_lem false true t s at message = refl
walked_by_lem false false t s at message = refl

-- where the walk finds w, it finds w after the step r that stands at its place, of whichever kind t that step is
pub walked : (s : List ℕ) (at : ℕ) (message : Bool) {r t : Step} {w : Walk} → r ≡ tlv_at s at → r ≡ t → walk s at message ≡ w → walked_by t s at message ≡ w
unfolding tlv_at
walked s at message a e v =
    rw (← e, a, ← walked_by_lem (eqb at (length s)) (option_whole s at) (whole_option (option_type s at) (option_end s at)) s at message, ← never_out s at message) v

-- the place behind a step
abbrev behind : ℕ → Step → ℕ
behind d (Ok (Some t)) = t.next
behind d (Ok None) = d
behind d (Err b) = d

-- whether a step is a whole option
abbrev is_whole : Step → Bool
is_whole (Ok (Some t)) = true
is_whole (Ok None) = false
is_whole (Err b) = false

-- a whole step goes on by two bytes or more, and stays within the body
pub whole-step : (s : List ℕ) (at kind next : ℕ) → tlv_at s at ≡ whole_option kind next → (at + 2 ≤ next) × (next ≤ length s)
unfolding tlv_at
whole-step s at kind next e =
    let p = picked_second (eqb at (length s)) (λ q. false≢true (ap is_whole q)) e in
    let w = picked_first (option_whole s at) (λ q. false≢true (ap is_whole q)) p.1 in
    let end : option_end s at ≡ next = ap (behind 0) w.1 in
    let ends = whole-ends s at w.0 in
    (omega arith, omega arith)
