-- What stands at an index of a list after bytes were put into it: theirs, or, before and behind them, what stood there.
use Rattle.std.proofs.Common.{◌≡◌, ℕ, ◌+◌, ◌-◌, ◌<◌, ◌≤◌, Bool, true, false, ltb, ◌⊎◌, List, ◌++◌, length, get_or, take, drop, sym, refl, ap, ◌∙◌, inl, inr, arith, length-take-le, get_or-drop, get_or-take, get_or-append-add, ltb-false, ltb-true}
use lib.ListN.{get_or-append}
use Rattle.laws.specs.Parts.{pasted}

-- of two numbers one is below the other, or not
pub lt_or_le : (a b : ℕ) → (a < b) ⊎ (b ≤ a)
lt_or_le a b = told (ltb a b) refl
  where
    told : (t : Bool) → ltb a b ≡ t → (a < b) ⊎ (b ≤ a)
    told true e = inl (ltb-true a b e)
    told false e = inr (ltb-false a b e)

-- an element behind the seam of two lists
pub append-behind : (xs ys : List ℕ) (i : ℕ) → length xs ≤ i → get_or (xs ++ ys) i 0 ≡ get_or ys (i - length xs) 0
append-behind xs ys i h =
    let e : length xs + (i - length xs) ≡ i = omega arith in
    ap (λ (k : ℕ). get_or (xs ++ ys) k 0) (sym e) ∙ get_or-append-add xs ys (i - length xs) 0

module _ (s : List ℕ) (at : ℕ) (d : List ℕ) (within : at ≤ length s) where
  -- a paste leaves what stands before it
  pub pasted_before : (i : ℕ) → i < at → get_or (pasted s at d) i 0 ≡ get_or s i 0
  unfolding pasted
  pasted_before i h =
      let n = length-take-le at s within in
      get_or-append (take at s) (d ++ drop (at + length d) s) 0 i (omega arith) ∙ get_or-take at s i 0 h

  pasted-rest : (i : ℕ) → at ≤ i → get_or (pasted s at d) i 0 ≡ get_or (d ++ drop (at + length d) s) (i - at) 0
  unfolding pasted
  pasted-rest i h =
      let n = length-take-le at s within in
      append-behind (take at s) (d ++ drop (at + length d) s) i (omega arith)
      ∙ ap (λ (k : ℕ). get_or (d ++ drop (at + length d) s) (i - k) 0) n

  -- puts its own bytes
  pub pasted-own : (i : ℕ) → at ≤ i → i < at + length d → get_or (pasted s at d) i 0 ≡ get_or d (i - at) 0
  pasted-own i h k =
      pasted-rest i h ∙ get_or-append d (drop (at + length d) s) 0 (i - at) (omega arith)

  -- and leaves what stands behind
  pub pasted-behind : (i : ℕ) → at + length d ≤ i → get_or (pasted s at d) i 0 ≡ get_or s i 0
  pasted-behind i h =
      let e : at + length d + (i - at - length d) ≡ i = omega arith in
      pasted-rest i (omega arith)
      ∙ append-behind d (drop (at + length d) s) (i - at) (omega arith)
      ∙ get_or-drop (at + length d) s (i - at - length d) 0
      ∙ ap (λ (k : ℕ). get_or s k 0) e
