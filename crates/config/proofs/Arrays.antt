-- What the handler of a condition uses.
use Prim.Native.Nat.{ℕ, zero, suc, ◌<◌}
use mathlib.Core.Path.{◌≡◌, refl}
use mathlib.Core.List.{List, [], ◌∷◌}
use native.Mathlib.Nat.{not-suc-le-zero, le_of_suc-le-suc}
use lib.ListN.{length, get_or}

-- an element that is there is the same for every default
pub same_element : (l : List ℕ) (i : ℕ) (d e : ℕ) → i < length l → get_or l i d ≡ get_or l i e
same_element [] i d e h = absurd (not-suc-le-zero h)
same_element (x ∷ l) zero d e h = refl
same_element (x ∷ l) (suc i) d e h = same_element l i d e (le_of_suc-le-suc h)
