-- `filestore::write_segment` meets its contract: each refusal leaves what there was, and the zeros and the segment that are put into the
-- store are what the definition puts.
use Rattle.std.proofs.Common.{◌≡◌, ℕ, ◌+◌, ◌-◌, ◌≤◌, max, Bool, true, length, List, ◌++◌, take, drop, replicate, ap, sym, ◌∙◌, arith, length-take, length-drop}
use borrow.Rule.Slice.PartMut.{put_mid, same_len_mid}
use lib.ListN.{length-replicate}
use Rattle.laws.specs.Parts.{pasted}
use Rattle.laws.proofs.Pasting.{part_pasted, pasted_more}
use Rattle.filestore.specs.File.{segment_fits, stored}
use Rattle.filestore.proofs.Laws.{fits-ends, stored-none, stored_outside, stored-unfit, stored_some}
use Rattle.filestore.proofs.write_segment.Goals as goal

pub returns-then-n-eq0 : goal.returns-then-n-eq0
returns-then-n-eq0 c = sym (stored-none _ _ _ _ c.if-n-eq0.true)

pub returns-then-size-len : goal.returns-then-size-len
returns-then-size-len c = sym (stored_outside _ _ _ _ c.if-size-len.true)

pub returns-then-not-segment_fits : goal.returns-then-not-segment_fits
returns-then-not-segment_fits c =
    let fits = c.segment_fits in
    sym (stored-unfit _ _ _ _ (sym fits.ensures ∙ c.if-not-segment_fits.true))

-- a segment with bytes that was found to fit ends within the store
ends : (size o n : ℕ) {r : Bool} → (n ≡ 0 → ⊥) → r ≡ segment_fits size o n → r ≡ true → o + n ≤ size
ends size o n some told is = fits-ends size o n (omega arith) (sym told ∙ is)

pub overflow_add-end : goal.overflow_add-end
overflow_add-end c =
    omega (arith, ends _ _ _ (omega arith) c.segment_fits.ensures c.if-not-segment_fits.false)

pub slice_bounds-fill-end : goal.slice_bounds-fill-end
slice_bounds-fill-end c =
    omega (arith, ends _ _ _ (omega arith) c.segment_fits.ensures c.if-not-segment_fits.false)

pub slice_bounds-copy_from_slice-end : goal.slice_bounds-copy_from_slice-end
slice_bounds-copy_from_slice-end c =
    let a = c.args in
    let from = c.min-from.result in
    let same = same_len_mid from (a.offset - from) a.store.now c.fill.new.self c.fill.ensures.len in
    omega (arith, same, ends _ _ _ (omega arith) c.segment_fits.ensures c.if-not-segment_fits.false)

-- the zeros and the segment, put one behind the other
two : (s z d : List ℕ) (from o : ℕ) → from + length z ≡ o → from ≤ length s → pasted (pasted s from z) o d ≡ pasted s from (z ++ d)
two s z d from o e h = ap (λ (k : ℕ). pasted (pasted s from z) k d) (sym e) ∙ pasted_more s from z d h

pub returns : goal.returns
returns c =
    let a = c.args in
    let s = a.store.now in
    let o = a.offset in
    let d = a.segment.now in
    let from = c.min-from.result in
    let z : List ℕ = replicate (o - from) 0 in
    let e = ends _ _ _ (omega arith) c.segment_fits.ensures c.if-not-segment_fits.false in
    let gap : length (take (o - from) (drop from s)) ≡ o - from = simp (length-take, length-drop) (omega (arith, e)) in
    let zeros : c.fill.new.self ≡ z = c.fill.ensures.after (λ y p. p) ∙ ap (λ (k : ℕ). replicate k 0) gap in
    let count : length z ≡ o - from = length-replicate (o - from) 0 in
    let filled : put_mid from (o - from) s c.fill.new.self ≡ pasted s from z =
    part_pasted s from (o - from) c.fill.new.self (ap length zeros ∙ count) ∙ ap (λ (l : List ℕ). pasted s from l) zeros in
    let copied : c.copy_from_slice.new.self ≡ d = c.copy_from_slice.ensures.after in
    let n : length d ≡ o + length d - o = omega arith in
    let whole : put_mid o (o + length d - o) (put_mid from (o - from) s c.fill.new.self) c.copy_from_slice.new.self ≡ pasted s from (z ++ d) =
    part_pasted (put_mid from (o - from) s c.fill.new.self) o (o + length d - o) c.copy_from_slice.new.self (ap length copied ∙ n)
    ∙ ap (λ (l : List ℕ). pasted (put_mid from (o - from) s c.fill.new.self) o l) copied
    ∙ ap (λ (l : List ℕ). pasted l o d) filled
    ∙ two s z d from o (omega (arith, count)) (omega arith) in
    ap (λ (l : List ℕ). stored c.max.result l) whole
    ∙ ap (λ (k : ℕ). stored k (pasted s from (z ++ d))) c.max.ensures
    ∙ ap (λ (f : ℕ). stored (max a.len (o + length d)) (pasted s f (replicate (o - f) 0 ++ d))) c.min-from.ensures
    ∙ stored_some s a.len o d (omega arith) (sym c.segment_fits.ensures ∙ c.if-not-segment_fits.false) (omega (arith, c.if-size-len.false))
