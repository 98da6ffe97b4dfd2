-- A stretch of a list whose ends are cut at the list's end is that stretch.
use Prim.Native.Nat.{ℕ, ◌-◌, min}
use mathlib.Core.Path.{◌≡◌, refl, sym}
use mathlib.Core.Bool.{Bool, true, false}
use mathlib.Core.List.{List, []}
use native.Mathlib.Omega.{arith}
use lib.Dec.{leb}
use lib.ListN.{length, take, drop, length-drop, drop_of_length-le}
use borrow.Author.Tests.{leb-true, leb-false}
use lib.Seq.{take_all}
use Rattle.laws.specs.Parts.{stretch}
use Rattle.laws.proofs.Lists.{take_past}

-- by whether the start lies before the cut end, and whether the end lies within the list
stretch_by : (b w : Bool) (s : List ℕ) (a e : ℕ) → leb a (min e (length s)) ≡ b → leb e (length s) ≡ w → take (min e (length s) - min a (min e (length s))) (drop (min a (min e (length s))) s) ≡ take (e - a) (drop a s)
stretch_by true true s a e p q =
    let h = leb-true a _ p in
    let k = leb-true e _ q in
    let start : min a (min e (length s)) ≡ a = omega arith in
    let end : min e (length s) - a ≡ e - a = omega arith in
    rw (start, end)
stretch_by true false s a e p q =
    let h = leb-true a _ p in
    let k = leb-false e _ q in
    let start : min a (min e (length s)) ≡ a = omega arith in
    rw start (take_past (drop a s) (min e (length s) - a) (e - a) (rw length-drop (omega arith)) (omega arith))
stretch_by false true s a e p q =
    let h = leb-false a _ p in
    let k = leb-true e _ q in
    let none : min e (length s) - min a (min e (length s)) ≡ 0 = omega arith in
    let nothing : e - a ≡ 0 = omega arith in
    rw (none, nothing)
stretch_by false false s a e p q =
    let h = leb-false a _ p in
    let k = leb-false e _ q in
    let none : min e (length s) - min a (min e (length s)) ≡ 0 = omega arith in
    rw (none, drop_of_length-le s {i = a} (omega arith)) (sym (take_all (e - a) [] (omega arith)))

pub stretch_cut : (s : List ℕ) (a e : ℕ) {x y : ℕ} → x ≡ min e (length s) → y ≡ min a x → take (x - y) (drop y s) ≡ stretch s a e
unfolding stretch
stretch_cut s a e p q = rw (q, p) (stretch_by (leb a (min e (length s))) (leb e (length s)) s a e refl refl)
