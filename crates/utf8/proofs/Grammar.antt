-- The code's steps are the grammar's. Of a byte that begins a character one test says so, which antt computes at all 256 bytes;
-- of a byte that is owed the two agree by their definitions.
use Prim.Native.Nat.{ℕ, zero, suc, ◌+◌, ◌<◌, ◌≤◌}
use mathlib.Core.Path.{◌≡◌, refl, ◌∙◌}
use mathlib.Core.Bool.{Bool, true, false, not, cond, ◌&&◌}
use mathlib.Core.List.{List, [], ◌∷◌}
use native.Mathlib.Numerals.{sub-one}
use borrow.Author.Tests.{eqb-true, not-true}
use Rattle.std.specs.Prelude.{Option, Some, None}
use lib.Dec.{eqb, eqb-suc-zero}
use lib.ListN.{length, drop, get_or, replicate, drop_of_length-le}
use Rattle.laws.proofs.Lists.{drop_one}
use Rattle.laws.proofs.Tests.{both_true}
use Rattle.laws.specs.Parts.{within}
use Rattle.utf8.specs.Utf8.{Range, tail, chars, begins_in, owed_in, Checked, bad, at_end, checked_from}
use Rattle.utf8.specs.Steps.{ranges_of, owed_of, owing, three_of, four_of, lead_of, after_of}
use Rattle.utf8.specs.declared.Owed.{Owed}
use Rattle.laws.proofs.Below.{below, at}

-- whether two lists of ranges are the same
same : List Range → List Range → Bool
same [] [] = true
same [] (q ∷ ys) = false
same (r ∷ xs) [] = false
same ((l, h) ∷ xs) ((m, k) ∷ ys) = (eqb l m && eqb h k) && same xs ys

-- lists that pass the test are equal
same_true : (xs ys : List Range) → same xs ys ≡ true → xs ≡ ys
unfolding same
same_true [] [] e = refl
same_true [] (q ∷ ys) e = cc
same_true (r ∷ xs) [] e = cc
same_true ((l, h) ∷ xs) ((m, k) ∷ ys) e =
    let p = both_true (eqb l m && eqb h k) (same xs ys) e in
    let q = both_true (eqb l m) (eqb h k) p.0 in
    cc (eqb-true l m q.0, eqb-true h k q.1, same_true xs ys p.1)

-- whether a step at a byte that is to begin a character is the grammar's: the byte begins one and owes the same ranges, or begins none
agrees : Option Owed → ℕ → Bool
agrees (Some o) b = begins_in chars b && same (owed_of o) (owed_in chars b)
agrees None b = not (begins_in chars b)

-- whether the code's step at the byte is
abbrev agrees_at : ℕ → Bool
agrees_at b = agrees (lead_of b) b

-- it is, at every byte
leads : below agrees_at 256 ≡ true
unfolding below agrees same lead_of three_of four_of ranges_of chars begins_in owed_in
leads = refl

-- what the walk finds after a step at index i, where s stands behind it
abbrev pub walked_by : Option Owed → ℕ → List ℕ → Checked
walked_by (Some o) i s = checked_from (owed_of o) (i + 1) s
walked_by None i s = bad i

-- a byte that is to begin a character
walked_lead : (t : Option Owed) (b i : ℕ) (s : List ℕ) → agrees t b ≡ true → checked_from [] i (b ∷ s) ≡ walked_by t i s
unfolding agrees checked_from
walked_lead (Some o) b i s e =
    let p = both_true (begins_in chars b) (same (owed_of o) (owed_in chars b)) e in
    rw (p.0, same_true (owed_of o) (owed_in chars b) p.1)
walked_lead None b i s e = rw (not-true (begins_in chars b) e)

-- what is owed after a byte that was owed
rest_owed : (n : ℕ) → replicate n tail ≡ ranges_of n tail
unfolding ranges_of
rest_owed zero = refl
rest_owed (suc n) = refl

-- a byte that is owed, by whether it lies in its range
walked_owed : (t : Bool) (n i : ℕ) (s : List ℕ) → cond t (checked_from (replicate n tail) (i + 1) s) (bad i) ≡ walked_by (cond t (owing n tail) None) i s
walked_owed true n i s = rw (rest_owed n)
walked_owed false n i s = refl

-- any byte
walked_on : (n lo hi b i : ℕ) (s : List ℕ) → b < 256 → checked_from (ranges_of n (lo, hi)) i (b ∷ s) ≡ walked_by (after_of (record { count = n; low = lo; high = hi }) b) i s
unfolding after_of ranges_of checked_from
walked_on zero lo hi b i s h = walked_lead (lead_of b) b i s (at agrees_at 256 leads b h)
walked_on (suc n) lo hi b i s h = rw (eqb-suc-zero n, sub-one) (walked_owed (within lo hi b) n i s)

-- where the walk from index i on finds w, it finds w after the step r that the code takes there, of whichever kind t that step is
pub walked : (s : List ℕ) (o : Owed) (i : ℕ) {r t : Option Owed} {w : Checked} → i < length s → get_or s i 0 < 256 → r ≡ after_of o (get_or s i 0) → r ≡ t → checked_from (owed_of o) i (drop i s) ≡ w → walked_by t i (drop (i + 1) s) ≡ w
walked s o i h k a e v =
    rw (← e, a, ← walked_on o.count o.low o.high (get_or s i 0) i (drop (i + 1) s) k, ← drop_one s i h) v

-- and at the end it finds what the code answers there
pub walked_out : (s : List ℕ) (o : Owed) (i : ℕ) {r w : Checked} → length s ≤ i → r ≡ at_end (owed_of o) i → checked_from (owed_of o) i (drop i s) ≡ w → r ≡ w
unfolding checked_from
walked_out s o i h e v = e ∙ (rw (drop_of_length-le s h) at v)
