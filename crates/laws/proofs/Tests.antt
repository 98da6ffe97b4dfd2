-- The branch that a test takes.
use mathlib.Core.Path.{◌≡◌, refl}
use mathlib.Core.Bool.{Bool, true, false, cond, ◌&&◌, ◌||◌, true≢false, false≢true}

module _ {ℓ} {A : Type ℓ} where
  pub cond-true : {b : Bool} → b ≡ true → (x y : A) → cond b x y ≡ x
  cond-true e x y = rw e

  pub cond-false : {b : Bool} → b ≡ false → (x y : A) → cond b x y ≡ y
  cond-false e x y = rw e

-- what holds of both branches holds of the one that the test takes
pub by_cond {ℓ κ} : {A : Type ℓ} (P : A → Type κ) (b : Bool) (x y : A) → P x → P y → P (cond b x y)
by_cond P true x y p q = p
by_cond P false x y p q = q

-- the same, where each branch may use what the test told
pub by_test {ℓ κ} : {A : Type ℓ} (P : A → Type κ) (b : Bool) (x y : A) → (b ≡ true → P x) → (b ≡ false → P y) → P (cond b x y)
by_test P true x y p q = p refl
by_test P false x y p q = q refl

-- a test of two parts
pub both_true : (a b : Bool) → (a && b) ≡ true → (a ≡ true) × (b ≡ true)
both_true true b e = (refl, e)
both_true false b e = absurd (false≢true e)

-- neither of two tests passes
pub neither : (a b : Bool) → (a || b) ≡ false → (a ≡ false) × (b ≡ false)
neither true b e = absurd (true≢false e)
neither false b e = (refl, e)

pub and-false : (a : Bool) → (a && false) ≡ false
and-false true = refl
and-false false = refl
