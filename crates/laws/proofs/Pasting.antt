-- What a list of bytes is after bytes were put into it.
use Prim.Native.Nat.{ℕ, suc, ◌+◌, ◌<◌, ◌≤◌}
use mathlib.Core.Path.{◌≡◌}
use mathlib.Core.List.{List, [], ◌∷◌, ◌++◌, append_assoc}
use native.Mathlib.Nat.{add-zero, zero-add, add_assoc}
use native.Mathlib.Numerals.{add-one}
use native.Mathlib.Omega.{arith}
use borrow.Author.Tests.{le-leb, lt-leb}
use lib.ListN.{length, take, drop, get_or, set, length-append, length-take, length-drop, take-append-drop}
use lib.Seq.{set-append_seam, lt-length-set, length-take-le, take-set-le, drop-set-lt, drop-cons, get_or-set_same, set_split, take_at, drop_at, drop-drop}
use Rattle.laws.specs.Parts.{pasted, written, filled}

-- bytes that fit are written, others are not
pub written-fits : (s : List ℕ) (at : ℕ) (d : List ℕ) → at + length d ≤ length s → written s at d ≡ pasted s at d
unfolding written
written-fits s at d h = rw (le-leb (at + length d) (length s) h)

pub written-not : (s : List ℕ) (at : ℕ) (d : List ℕ) → length s < at + length d → written s at d ≡ s
unfolding written
written-not s at d h = rw (lt-leb (at + length d) (length s) h)

-- no bytes change nothing
pub pasted-none : (s : List ℕ) (at : ℕ) → pasted s at [] ≡ s
unfolding pasted
pasted-none s at = rw (add-zero, take-append-drop)

-- the list keeps its length
pub length-pasted : (s : List ℕ) (at : ℕ) (d : List ℕ) → at + length d ≤ length s → length (pasted s at d) ≡ length s
unfolding pasted
length-pasted s at d h = simp (length-append, length-take, length-drop) (omega arith)

-- a byte that was stored, and what stands behind it
drop_set_here : (s : List ℕ) (p b : ℕ) → p < length s → drop p (set s p b) ≡ b ∷ drop (suc p) s
drop_set_here s p b h =
    rw
    (drop-cons (set s p b) p 0 (lt-length-set s p b h), get_or-set_same s p b 0 h, drop-set-lt (suc p) s p b (omega arith))

-- the last byte of those to be put may be stored first
pub pasted_snoc : (s : List ℕ) (at : ℕ) (d : List ℕ) (b : ℕ) → at + length d < length s → pasted s at (d ++ (b ∷ [])) ≡ pasted (set s (at + length d) b) at d
unfolding pasted
pasted_snoc s at d b h =
    let e : at + (length d + 1) ≡ suc (at + length d) = omega arith in
    rw (take-set-le at s (at + length d) b (omega arith), drop_set_here s (at + length d) b h, append_assoc d (b ∷ []), length-append, e)

-- bytes put behind bytes that were put
pub pasted_more : (s : List ℕ) (at : ℕ) (d e : List ℕ) → at ≤ length s → pasted (pasted s at d) (at + length d) e ≡ pasted s at (d ++ e)
unfolding pasted
pasted_more s at d e h =
    let p = take at s in
    let q = drop (at + length d) s in
    let n : length (p ++ d) ≡ at + length d = rw (length-append, length-take-le at s h) in
    rw
    (← (append_assoc p d q), take_at (p ++ d) q (at + length d) n, ← (drop-drop (length e) (at + length d) ((p ++ d) ++ q)), drop_at (p ++ d) q (at + length d) n, drop-drop (length e) (at + length d) s, append_assoc, append_assoc, length-append, add_assoc)

-- a store puts one byte
pub pasted_one : (s : List ℕ) (at b : ℕ) → at < length s → set s at b ≡ pasted s at (b ∷ [])
unfolding pasted
pasted_one s at b h = rw (set_split s at b h, add-one)

-- bytes put at the start
pub pasted-start : (s d : List ℕ) → pasted s 0 d ≡ filled s d
unfolding pasted filled
pasted-start s d = rw zero-add

-- one more byte behind a front that was filled
pub filled_one : (s d : List ℕ) (b : ℕ) → length d < length s → set (filled s d) (length d) b ≡ filled s (d ++ (b ∷ []))
unfolding filled
filled_one s d b h =
    rw (drop-cons s (length d) 0 h, set-append_seam d (get_or s (length d) 0), append_assoc, length-append, add-one)

-- a part of a list that was lent and came back as d: d is put where the part starts
pub part_pasted : (s : List ℕ) (a k : ℕ) (d : List ℕ) → length d ≡ k → take a s ++ (d ++ drop k (drop a s)) ≡ pasted s a d
unfolding pasted
part_pasted s a k d e = rw (← e, drop-drop (length d) a s)
