-- A rule for every number below a bound: one test that antt computes, number by number, and the law that turns it into the rule.
use Prim.Native.Nat.{ℕ, zero, suc, ◌<◌}
use mathlib.Core.Path.{◌≡◌}
use mathlib.Core.Bool.{Bool, true, ◌&&◌}
use mathlib.Core.Logic.{⊎_elim}
use Rattle.laws.proofs.Tests.{both_true}
use native.Mathlib.Nat.{not-suc-le-zero, le_of_suc-le-suc, eq-or-lt_of_le}

-- the test passes at each number below n
unfoldable pub below : (ℕ → Bool) → ℕ → Bool
below f zero = true
below f (suc n) = f n && below f n

-- so it does at any of them
pub at : (f : ℕ → Bool) (n : ℕ) → below f n ≡ true → (k : ℕ) → k < n → f k ≡ true
unfolding below
at f zero e k h = absurd (not-suc-le-zero h)
at f (suc n) e k h =
    let p : (f n ≡ true) × (below f n ≡ true) = both_true (f n) (below f n) e in
    ⊎_elim (λ q. rw q p.0) (λ l. at f n p.1 k l) (eq-or-lt_of_le (le_of_suc-le-suc h))
