-- The file holds what the segments carried. One segment: it is put with the zeros before it as one piece, so each offset lies before,
-- in or behind that piece. Many: by induction over the segments, from a file that may hold bytes already.
use Rattle.std.proofs.Common.{◌≡◌, ℕ, ◌+◌, ◌-◌, ◌<◌, ◌≤◌, min, max, Bool, true, false, cond, ◌||◌, eqb, ltb, List, [], ◌∷◌, ◌++◌, length, get_or, replicate, sym, refl, ap, ◌∙◌, ⊎_elim, zero-le, eq-zero-or-pos, arith, length-append, length-take-le, get_or-take, le-ltb, lt-ltb, le-leb}
use mathlib.Core.Bool.{false≢true}
use borrow.Author.Tests.{lt-leb}
use lib.ListN.{length-replicate, get_or-replicate, get_or-append}
use Rattle.laws.specs.Parts.{pasted}
use Rattle.laws.proofs.Tests.{both_true}
use Rattle.filestore.specs.File.{segment_into, length_after, Stored, stored, with_segment}
use Rattle.filestore.specs.Contents.{Segment, end_of, over, byte_at, byte_after, any_over, carried, reach, fits_in, all_fit, after_one, after_all, received, received_file}
use Rattle.filestore.proofs.Laws.{fits-ends, segment-none, length_none, length_some, segment_some, segment_keeps, length-within}
use Rattle.filestore.proofs.Places.{lt_or_le, append-behind, pasted_before, pasted-own, pasted-behind}

-- a segment is over its own offsets, and over no other
over_in : (g : Segment) (i : ℕ) → g.offset ≤ i → i < end_of g → over g i ≡ true
over_in g i h k = rw (le-leb g.offset i h) (lt-ltb i (end_of g) k)

over_out : (g : Segment) (i : ℕ) → (g.offset ≤ i → end_of g ≤ i) → over g i ≡ false
over_out g i f =
    ⊎_elim (λ h. rw (lt-leb g.offset i h)) (λ h. rw (le-leb g.offset i h) (le-ltb i (end_of g) (f h)))
    (lt_or_le i g.offset)

module _ (store : List ℕ) (len : ℕ) (g : Segment) where
  -- the byte after a segment, in its three cases
  own : (i : ℕ) → g.offset ≤ i → i < end_of g → byte_after store len g i ≡ byte_at g i
  unfolding byte_after
  own i h k = rw (over_in g i h k)

  kept : (i : ℕ) → (g.offset ≤ i → end_of g ≤ i) → i < len → byte_after store len g i ≡ get_or store i 0
  unfolding byte_after
  kept i f h = rw (over_out g i f, lt-ltb i len h)

  new : (i : ℕ) → (g.offset ≤ i → end_of g ≤ i) → len ≤ i → byte_after store len g i ≡ 0
  unfolding byte_after
  new i f h = rw (over_out g i f, le-ltb i len h)

  -- where the piece starts, its zeros, and all of it
  abbrev start : ℕ
  start = min len g.offset

  abbrev zeros : List ℕ
  zeros = replicate (g.offset - start) 0

  abbrev piece : List ℕ
  piece = zeros ++ g.bytes

  count_zeros : length zeros ≡ g.offset - start
  count_zeros = length-replicate (g.offset - start) 0

  -- the piece's own bytes: zeros up to the offset, and then the segment
  piece_byte : (i : ℕ) → start ≤ i → i < end_of g → get_or piece (i - start) 0 ≡ byte_after store len g i
  piece_byte i h k =
      ⊎_elim
      (λ b.
      get_or-append zeros g.bytes 0 (i - start) (omega (arith, count_zeros))
      ∙ get_or-replicate (g.offset - start) (i - start) 0 0 (omega arith)
      ∙ sym (new i (λ p. omega arith) (omega arith)))
      (λ b.
      let e : i - start - length zeros ≡ i - g.offset = omega (arith, count_zeros) in
      append-behind zeros g.bytes (i - start) (omega (arith, count_zeros))
      ∙ ap (λ (k : ℕ). get_or g.bytes k 0) e
      ∙ sym (own i b k))
      (lt_or_le i g.offset)

  -- each byte after the piece is put
  put_byte : end_of g ≤ length store → len ≤ length store → (i : ℕ) → i < max len (end_of g)
      → get_or (pasted store start piece) i 0 ≡ byte_after store len g i
  put_byte ends within i h =
      let from : start ≤ length store = omega arith in
      let n : start + length piece ≡ end_of g = rw length-append (omega (arith, count_zeros)) in
      ⊎_elim
      (λ b. pasted_before store start piece from i b ∙ sym (kept i (λ p. omega arith) (omega arith)))
      (λ a.
      ⊎_elim (λ b. pasted-own store start piece from i a (omega arith) ∙ piece_byte i a b)
      (λ b. pasted-behind store start piece from i (omega arith) ∙ sym (kept i (λ p. b) (omega arith)))
      (lt_or_le i (end_of g)))
      (lt_or_le i start)

  -- one segment: each byte of the file after it
  pub one_segment : fits_in (length store) g ≡ true → len ≤ length store → (i : ℕ) → i < length_after len g.offset (length g.bytes)
      → get_or (segment_into store len g.offset g.bytes) i 0 ≡ byte_after store len g i
  one_segment fits within i h =
      let o = g.offset in
      let d = g.bytes in
      ⊎_elim
      (λ e.
      ap (λ (l : List ℕ). get_or l i 0) (segment-none store len o d e)
      ∙ sym (kept i (λ p. omega arith) (omega (arith, length_none len o (length d) e))))
      (λ s.
      ap (λ (l : List ℕ). get_or l i 0) (segment_some store len o d s within)
      ∙ put_byte (fits-ends (length store) o (length d) s fits) within i (omega (arith, length_some len o (length d) s)))
      (eq-zero-or-pos (length d))

-- behind the end of a file after a segment lies neither the old file nor the segment
behind : (len o n i : ℕ) → length_after len o n ≤ i → (len ≤ i) × (o ≤ i → o + n ≤ i)
behind len o n i h =
    ⊎_elim (λ e. (omega (arith, length_none len o n e), λ p. omega arith))
    (λ s. (omega (arith, length_some len o n s), λ p. omega (arith, length_some len o n s)))
    (eq-zero-or-pos n)

-- the byte of a file at offset i, and 0 behind its end
abbrev held : Stored → ℕ → ℕ
held f i = cond (ltb i f.len) (get_or f.store i 0) 0

-- one segment: each byte after it, at every offset
held_one : (f : Stored) (g : Segment) → fits_in (length f.store) g ≡ true → f.len ≤ length f.store → (i : ℕ)
    → held (after_one f g) i ≡ byte_after f.store f.len g i
unfolding with_segment
held_one f g fits within i =
    let after = length_after f.len g.offset (length g.bytes) in
    ⊎_elim (λ h. rw (lt-ltb i after h) (one_segment f.store f.len g fits within i h))
    (λ h.
    let past = behind f.len g.offset (length g.bytes) i h in
    rw (le-ltb i after h) (sym (new f.store f.len g i past.1 past.0)))
    (lt_or_le i after)

-- what is known of a file and of segments to come is known again after the first of them
fit_again : (f : Stored) (g : Segment) (later : List Segment) → all_fit (length f.store) (g ∷ later) ≡ true → f.len ≤ length f.store
    → (fits_in (length f.store) g ≡ true) × (all_fit (length (after_one f g).store) later ≡ true) × ((after_one f g).len ≤ length (after_one f g).store)
unfolding all_fit with_segment
fit_again f g later fit within =
    let s = f.store in
    let both = both_true (fits_in (length s) g) (all_fit (length s) later) fit in
    let same = segment_keeps s f.len g.offset g.bytes both.0 within in
    let inside = length-within f.len g.offset (length g.bytes) (length s) both.0 within in
    (both.0, rw same both.1, rw same inside)

-- many: the file stays within the store
after-within : (f : Stored) (segments : List Segment) → all_fit (length f.store) segments ≡ true → f.len ≤ length f.store
    → (after_all f segments).len ≤ length (after_all f segments).store
unfolding after_all
after-within f [] fit within = within
after-within f (g ∷ later) fit within =
    let again = fit_again f g later fit within in after-within (after_one f g) later again.1 again.2

-- it reaches to the end of each segment
longer_by : (b : Bool) (len e : ℕ) → cond b len (max len e) ≡ max len (cond b 0 e)
longer_by true len e = omega arith
longer_by false len e = refl

length-reach : (f : Stored) (segments : List Segment) → (after_all f segments).len ≡ max f.len (reach segments)
unfolding after_all reach with_segment length_after
length-reach f [] = omega arith
length-reach f (g ∷ later) =
    length-reach (after_one f g) later ∙ omega (arith, longer_by (eqb (length g.bytes) 0) f.len (end_of g))

-- and the segments' bytes stand over what it held before
pick : (a o : Bool) (x b h : ℕ) → cond a x (cond o b h) ≡ cond (o || a) (cond a x (cond o b 0)) h
pick true true x b h = refl
pick true false x b h = refl
pick false true x b h = refl
pick false false x b h = refl

held_carried : (f : Stored) (segments : List Segment) → all_fit (length f.store) segments ≡ true → f.len ≤ length f.store
    → (i : ℕ) → i < (after_all f segments).len → get_or (after_all f segments).store i 0 ≡ cond (any_over segments i) (carried segments i) (held f i)
unfolding after_all any_over carried byte_after
held_carried f [] fit within i h = rw (lt-ltb i f.len h)
held_carried f (g ∷ later) fit within i h =
    let again = fit_again f g later fit within in
    held_carried (after_one f g) later again.1 again.2 i h
    ∙ ap (λ (b : ℕ). cond (any_over later i) (carried later i) b) (held_one f g again.0 within i)
    ∙ pick (any_over later i) (over g i) (carried later i) (byte_at g i) (held f i)

-- where no segment is over an offset, none carried a byte for it
none_by : (o a : Bool) (x b : ℕ) → (o || a) ≡ false → cond a x (cond o b 0) ≡ 0
none_by true a x b e = absurd (false≢true (sym e))
none_by false true x b e = absurd (false≢true (sym e))
none_by false false x b e = refl

none-carried : (segments : List Segment) (i : ℕ) → any_over segments i ≡ false → carried segments i ≡ 0
unfolding any_over carried
none-carried [] i e = refl
none-carried (g ∷ later) i e = none_by (over g i) (any_over later i) (carried later i) (byte_at g i) e

all_by : (b : Bool) (segments : List Segment) (i : ℕ) → any_over segments i ≡ b → cond b (carried segments i) 0 ≡ carried segments i
all_by true segments i e = refl
all_by false segments i e = sym (none-carried segments i e)

module _ (store : List ℕ) (segments : List Segment) where
  -- the length of the file that the segments make of an empty one: the largest end of theirs
  pub received-length : (received store segments).len ≡ reach segments
  received-length = length-reach (stored 0 store) segments ∙ omega arith

  -- so many bytes it has
  pub file_length : all_fit (length store) segments ≡ true → length (received_file store segments) ≡ reach segments
  file_length fit =
      let f = received store segments in
      length-take-le f.len f.store (after-within (stored 0 store) segments fit zero-le) ∙ received-length

  -- and each of them is the one that the last segment over its offset carried, or 0 where none is over it
  pub received_bytes : all_fit (length store) segments ≡ true → (i : ℕ) → i < (received store segments).len
      → get_or (received_file store segments) i 0 ≡ carried segments i
  received_bytes fit i h =
      let f = received store segments in
      get_or-take f.len f.store i 0 h
      ∙ held_carried (stored 0 store) segments fit zero-le i h
      ∙ ap (λ (b : Bool). cond (any_over segments i) (carried segments i) (cond b (get_or store i 0) 0)) (le-ltb i 0 zero-le)
      ∙ all_by (any_over segments i) segments i refl
