-- What a list of refusals in order tells: from an answer, which conditions hold; from conditions, the answer.
use Prim.Native.Nat.{ℕ}
use mathlib.Core.Path.{◌≡◌, refl}
use mathlib.Core.Bool.{Bool, true, false, cond, ◌&&◌}
use mathlib.Core.List.{List, [], ◌∷◌, ◌++◌}
use native.Mathlib.Omega.{arith}
use lib.Dec.{T, ltb, ltb→lt, eqb}
use borrow.Author.Tests.{eq-eqb, ne_eqb, eqb-true}
use Rattle.laws.specs.First.{first_of}

-- each refusal of a list has a number
abbrev pub numbered : List (ℕ × Bool) → Bool
numbered [] = true
numbered (c ∷ rest) = ltb 0 c.0 && numbered rest

and_left : (a b : Bool) → T (a && b) → T a
and_left true b t = tt
and_left false b t = t

and_right : (a b : Bool) → T (a && b) → T b
and_right true b t = t
and_right false b t = absurd t

and_pair : (a b : Bool) → T a → T b → T (a && b)
and_pair true b p q = q
and_pair false b p q = p

-- a list behind another
pub numbered-append : (a b : List (ℕ × Bool)) → T (numbered a) → T (numbered b) → T (numbered (a ++ b))
numbered-append [] b p q = q
numbered-append (c ∷ rest) b p q =
    and_pair (ltb 0 c.0) (numbered (rest ++ b)) (and_left (ltb 0 c.0) (numbered rest) p)
    (numbered-append rest b (and_right (ltb 0 c.0) (numbered rest) p) q)

-- no condition of a list holds
abbrev pub Clear : List (ℕ × Bool) → Type 0
Clear [] = Unit {0}
Clear (c ∷ rest) = (c.1 ≡ false) × Clear rest

clear_head : (n : ℕ) (v : Bool) (r : ℕ) → T (ltb 0 n) → cond v n r ≡ 0 → (v ≡ false) × (r ≡ 0)
clear_head n true r t e = absurd (omega (arith, ltb→lt 0 n t))
clear_head n false r t e = (refl, e)

-- where no refusal is told, no condition holds
pub clear : (l : List (ℕ × Bool)) → T (numbered l) → first_of l ≡ 0 → Clear l
clear [] t e = tt
clear (c ∷ rest) t e =
    let here = clear_head c.0 c.1 (first_of rest) (and_left (ltb 0 c.0) (numbered rest) t) e in
    (here.0, clear rest (and_right (ltb 0 c.0) (numbered rest) t) here.1)

-- the first condition of the list decides, or the lists behind it do
head_then : (v : Bool) (n fr fb fab : ℕ) → T (ltb 0 n) → fab ≡ cond (eqb fr 0) fb fr → cond v n fab ≡ cond (eqb (cond v n fr) 0) fb (cond v n fr)
head_then true n fr fb fab t e = rw (ne_eqb n 0 (λ z. omega (arith, ltb→lt 0 n t)))
head_then false n fr fb fab t e = e

-- one list after another: the second tells only where the first does not
pub first_append : (a b : List (ℕ × Bool)) → T (numbered a) → first_of (a ++ b) ≡ cond (eqb (first_of a) 0) (first_of b) (first_of a)
first_append [] b t = refl
first_append (c ∷ rest) b t =
    head_then c.1 c.0 (first_of rest) (first_of b) (first_of (rest ++ b)) (and_left (ltb 0 c.0) (numbered rest) t)
    (first_append rest b (and_right (ltb 0 c.0) (numbered rest) t))

-- where neither list tells, the first does not
clear_by : (b : Bool) (n m : ℕ) → eqb n 0 ≡ b → cond b m n ≡ 0 → n ≡ 0
clear_by true n m p e = eqb-true n 0 p
clear_by false n m p e = e

pub first_clear : (n m : ℕ) → cond (eqb n 0) m n ≡ 0 → n ≡ 0
first_clear n m e = clear_by (eqb n 0) n m refl e

-- the first list tells, or it does not and the second does
pub first_left : (a b : List (ℕ × Bool)) → T (numbered a) → (first_of a ≡ 0 → ⊥) → first_of (a ++ b) ≡ first_of a
first_left a b t h = rw (first_append a b t, ne_eqb (first_of a) 0 h)

pub first_right : (a b : List (ℕ × Bool)) → T (numbered a) → first_of a ≡ 0 → first_of (a ++ b) ≡ first_of b
first_right a b t h = rw (first_append a b t, eq-eqb (first_of a) 0 h)
