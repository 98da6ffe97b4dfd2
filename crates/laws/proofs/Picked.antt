-- What a test's pick tells of the test, and what may be done to the branches.
use Prim.Native.Nat.{ℕ}
use mathlib.Core.Path.{◌≡◌, refl, sym}
use mathlib.Core.Bool.{Bool, true, false, cond}
use lib.Dec.{eqb}
use borrow.Author.Tests.{eqb-true}

-- the pick is not the second branch: the test is true, and the pick is the first
pub picked_first {ℓ} : {A : Type ℓ} (b : Bool) {x y z : A} → (y ≡ z → ⊥) → cond b x y ≡ z → (b ≡ true) × (x ≡ z)
picked_first true n e = (refl, e)
picked_first false n e = absurd (n e)

-- the pick is not the first branch: the test is false, and the pick is the second
pub picked_second {ℓ} : {A : Type ℓ} (b : Bool) {x y z : A} → (x ≡ z → ⊥) → cond b x y ≡ z → (b ≡ false) × (y ≡ z)
picked_second true n e = absurd (n e)
picked_second false n e = (refl, e)

-- a function of the pick picks among its values
pub through {ℓ κ} : {A : Type ℓ} {B : Type κ} (f : A → B) (b : Bool) (x y : A) → f (cond b x y) ≡ cond b (f x) (f y)
through f true x y = refl
through f false x y = refl

-- where the first branch is picked, an equal one may stand for it
pub under {ℓ} : {A : Type ℓ} (b : Bool) {x x' : A} (y : A) → (b ≡ true → x ≡ x') → cond b x y ≡ cond b x' y
under true y h = h refl
under false y h = refl

-- an answer that tells its refusal's number where that is not 0
told_by : (b : Bool) (n : ℕ) → eqb n 0 ≡ b → cond b 0 n ≡ n
told_by true n p = sym (eqb-true n 0 p)
told_by false n p = refl

pub told : (n : ℕ) → cond (eqb n 0) 0 n ≡ n
told n = told_by (eqb n 0) n refl
