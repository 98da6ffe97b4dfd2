-- A test's branches, each with what the test tells there, and the numbers that a list of refusals never tells.
use Prim.Native.Nat.{ℕ}
use mathlib.Core.Path.{◌≡◌}
use mathlib.Core.Bool.{Bool, true, not, ◌&&◌}
use mathlib.Core.List.{List, [], ◌∷◌, ◌++◌}
use lib.Dec.{eqb}
use borrow.Author.Tests.{eqb-false, not-true}
use Rattle.laws.specs.First.{first_of}
use Rattle.laws.proofs.Tests.{by_test, both_true}

-- no refusal of a list has the number
abbrev pub without : ℕ → List (ℕ × Bool) → Bool
without n [] = true
without n (c ∷ rest) = not (eqb c.0 n) && without n rest

pub without-append : (n : ℕ) (a b : List (ℕ × Bool)) → without n a ≡ true → without n b ≡ true → without n (a ++ b) ≡ true
without-append n [] b p q = q
without-append n (c ∷ rest) b p q =
    let parts = both_true (not (eqb c.0 n)) (without n rest) p in
    rw (parts.0, without-append n rest b parts.1 q)

-- so the list never tells it
pub never : (n : ℕ) (l : List (ℕ × Bool)) → without n l ≡ true → (0 ≡ n → ⊥) → first_of l ≡ n → ⊥
never n [] t z = z
never n (c ∷ rest) t z =
    let parts = both_true (not (eqb c.0 n)) (without n rest) t in
    by_test (λ x. x ≡ n → ⊥) c.1 c.0 (first_of rest) (λ v. eqb-false c.0 n (not-true (eqb c.0 n) parts.0))
    (λ v. never n rest parts.1 z)
