-- Laws of the file in its store: what writing a segment leaves in each case, and that file and store keep their bounds.
use Rattle.std.proofs.Common.{◌≡◌, ℕ, ◌+◌, ◌-◌, ◌<◌, ◌≤◌, min, max, Bool, true, false, cond, ◌&&◌, eqb, leb, List, ◌++◌, length, replicate, sym, refl, ap, ◌∙◌, ⊎_elim, eq-zero-or-pos, sub-eq-zero_of_le, arith, length-append, eq-eqb, ne_eqb, le-leb, leb-true}
use native.Mathlib.Nat.{sub_self}
use native.Mathlib.Omega.{min_cases}
use borrow.Author.Tests.{lt-leb}
use lib.ListN.{length-replicate}
use Rattle.laws.specs.Parts.{pasted}
use Rattle.laws.proofs.Tests.{and-false}
use Rattle.laws.proofs.Pasting.{pasted-none, pasted_more, length-pasted}
use Rattle.filestore.specs.File.{segment_fits, segment_into, length_after, stored, with_segment, stored_of, Stored}

has_bytes : (n : ℕ) → 0 < n → eqb n 0 ≡ false
has_bytes n h = ne_eqb n 0 (λ e. omega arith)

-- a pick between two that are the same
same : (b : Bool) (f : Stored) → cond b f f ≡ f
same true f = refl
same false f = refl

module _ (size o n : ℕ) where
  -- a segment that has bytes fits where it ends within the store, and nowhere else
  pub fits-ends : 0 < n → segment_fits size o n ≡ true → o + n ≤ size
  unfolding segment_fits
  fits-ends s h = leb-true (o + n) size (rw (has_bytes n s) at h)

  pub ends-fits : 0 < n → o + n ≤ size → segment_fits size o n ≡ true
  unfolding segment_fits
  ends-fits s h = rw (has_bytes n s) (le-leb (o + n) size h)

  pub ends-unfit : 0 < n → size < o + n → segment_fits size o n ≡ false
  unfolding segment_fits
  ends-unfit s h = rw (has_bytes n s) (lt-leb (o + n) size h)

  -- an empty one fits anywhere
  pub fits-none : n ≡ 0 → segment_fits size o n ≡ true
  unfolding segment_fits
  fits-none e = rw (eq-eqb n 0 e)

module _ (len o n : ℕ) where
  -- an empty segment leaves the file's length, and another makes the file reach to its end at least
  pub length_none : n ≡ 0 → length_after len o n ≡ len
  unfolding length_after
  length_none e = rw (eq-eqb n 0 e)

  pub length_some : 0 < n → length_after len o n ≡ max len (o + n)
  unfolding length_after
  length_some s = rw (has_bytes n s)

  -- the file stays within the store
  pub length-within : (size : ℕ) → segment_fits size o n ≡ true → len ≤ size → length_after len o n ≤ size
  length-within size f h =
      ⊎_elim (λ e. omega (arith, length_none e)) (λ s. omega (arith, length_some s, fits-ends size o n s f)) (eq-zero-or-pos n)

module _ (store : List ℕ) (len o : ℕ) (d : List ℕ) where
  -- an empty segment leaves the store
  pub segment-none : length d ≡ 0 → segment_into store len o d ≡ store
  unfolding segment_into
  segment-none e = rw (eq-eqb (length d) 0 e)

  -- another is put with the zeros before it as one piece
  pub segment_some : 0 < length d → len ≤ length store → segment_into store len o d ≡ pasted store (min len o) (replicate (o - min len o) 0 ++ d)
  unfolding segment_into
  segment_some s h =
      let z : List ℕ = replicate (o - len) 0 in
      rw (has_bytes (length d) s)
      (min_cases len o (pasted (pasted store len z) o d ≡ pasted store (min len o) (replicate (o - min len o) 0 ++ d))
      (λ p e.
      let at : len + length z ≡ o = rw length-replicate (omega arith) in
      rw e (ap (λ (k : ℕ). pasted (pasted store len z) k d) (sym at) ∙ pasted_more store len z d h))
      (λ q e. rw (e, sub_self o, sub-eq-zero_of_le q, pasted-none store len)))

  -- the store keeps its length
  pub segment_keeps : segment_fits (length store) o (length d) ≡ true → len ≤ length store → length (segment_into store len o d) ≡ length store
  segment_keeps f h =
      ⊎_elim (λ e. ap length (segment-none e))
      (λ s.
      let ends = fits-ends (length store) o (length d) s f in
      let z : List ℕ = replicate (o - min len o) 0 in
      ap length (segment_some s h)
      ∙ length-pasted store (min len o) (z ++ d) (simp (length-append, length-replicate) (omega arith)))
      (eq-zero-or-pos (length d))

  -- what a call of the segment write leaves: the file with the segment where it fits
  pub stored-fits : segment_fits (length store) o (length d) ≡ true → len ≤ length store → stored_of store len o d ≡ with_segment store len o d
  unfolding stored_of
  stored-fits f h = rw (f, le-leb len (length store) h)

  -- put as one piece, where it has bytes
  pub stored_some : 0 < length d → segment_fits (length store) o (length d) ≡ true → len ≤ length store
      → stored (max len (o + length d)) (pasted store (min len o) (replicate (o - min len o) 0 ++ d)) ≡ stored_of store len o d
  unfolding with_segment
  stored_some s f h = rw (stored-fits f h, length_some len o (length d) s, segment_some s h)

  -- else what there was: where it does not fit, where the file is longer than the store, and where it is empty
  pub stored-unfit : segment_fits (length store) o (length d) ≡ false → stored_of store len o d ≡ stored len store
  unfolding stored_of
  stored-unfit f = rw f

  pub stored_outside : length store < len → stored_of store len o d ≡ stored len store
  unfolding stored_of
  stored_outside h = rw (lt-leb len (length store) h, and-false (segment_fits (length store) o (length d)))

  pub stored-none : length d ≡ 0 → stored_of store len o d ≡ stored len store
  unfolding stored_of with_segment
  stored-none e =
      rw (length_none len o (length d) e, segment-none e)
      (same (segment_fits (length store) o (length d) && leb len (length store)) (stored len store))

  -- in each case the store keeps its length
  keeps_by : (f w : Bool) → segment_fits (length store) o (length d) ≡ f → leb len (length store) ≡ w
      → length (cond (f && w) (with_segment store len o d) (stored len store)).store ≡ length store
  unfolding with_segment
  keeps_by true true p q = segment_keeps p (leb-true len (length store) q)
  keeps_by true false p q = refl
  keeps_by false w p q = refl

  pub stored_keeps : length (stored_of store len o d).store ≡ length store
  unfolding stored_of
  stored_keeps = keeps_by (segment_fits (length store) o (length d)) (leb len (length store)) refl refl
