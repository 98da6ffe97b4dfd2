-- What the answer on a name at a place tells: taken apart by the test that made it.
use Prim.Native.Nat.{ℕ}
use mathlib.Core.Path.{◌≡◌, sym, ap, ◌∙◌}
use mathlib.Core.Bool.{true, false, true≢false, false≢true}
use mathlib.Core.List.{List}
use Rattle.std.specs.Prelude.{Option, Some, None, is_some}
use Rattle.bodies.specs.Metadata.{name_end, name_whole}
use Rattle.bodies.specs.Names.{name_read}
use Rattle.laws.proofs.Picked.{picked_first, picked_second}

abbrev end_or : ℕ → Option ℕ → ℕ
end_or d (Some n) = n
end_or d None = d

-- the answer o, taken apart
module _ (s : List ℕ) (at : ℕ) {o : Option ℕ} (e : o ≡ name_read s at) where
  -- a whole name, and the place behind it
  pub name_whole_lem : (next : ℕ) → o ≡ Some next → (name_whole s at ≡ true) × (next ≡ name_end s at)
  unfolding name_read
  name_whole_lem next is =
      let p = picked_first (name_whole s at) (λ q. false≢true (ap is_some q)) (sym e ∙ is) in
      (p.0, sym (ap (end_or 0) p.1))

  -- a name that is not whole
  pub name_bad : o ≡ None → name_whole s at ≡ false
  unfolding name_read
  name_bad is = (picked_second (name_whole s at) (λ q. true≢false (ap is_some q)) (sym e ∙ is)).0
