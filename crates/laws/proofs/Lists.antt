-- Lists of numbers, with indices as code has them: i + 1 and not suc i.
use Prim.Native.Nat.{ℕ, ◌+◌, ◌-◌, ◌<◌, ◌≤◌}
use mathlib.Core.Path.{◌≡◌}
use mathlib.Core.List.{List, [], ◌∷◌, ◌++◌}
use native.Mathlib.Numerals.{add-one}
use native.Mathlib.Omega.{arith}
use lib.ListN.{length, take, drop, get_or, length-drop}
use lib.Seq.{take-suc, drop-cons, take_all}

-- one more element from the front
pub take_one : (l : List ℕ) (i : ℕ) → i < length l → take (i + 1) l ≡ take i l ++ (get_or l i 0 ∷ [])
take_one l i h = rw (add-one, take-suc l i 0)

-- one element less
pub drop_one : (l : List ℕ) (i : ℕ) → i < length l → drop i l ≡ get_or l i 0 ∷ drop (i + 1) l
drop_one l i h = rw (add-one, drop-cons l i 0)

-- the rest from an index on, as a part that ends at the length gives it
pub rest_of : (l : List ℕ) (i : ℕ) → take (length l - i) (drop i l) ≡ drop i l
rest_of l i = take_all (length l - i) (drop i l) (simp length-drop (omega arith))

-- both counts reach past the end
pub take_past : (l : List ℕ) (i n : ℕ) → length l ≤ i → i ≤ n → take i l ≡ take n l
take_past l i n h k = rw (take_all i l h, take_all n l (omega arith))
