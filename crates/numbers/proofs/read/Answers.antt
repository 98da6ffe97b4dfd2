-- `numbers::read` meets its contract. The loop's invariant: the value is that of the bytes so far, and below 256 to their count.
use Prim.Native.Nat.{ℕ, ◌+◌, ◌-◌, ◌*◌, ◌^◌, ◌<◌, ◌≤◌}
use mathlib.Core.Path.{◌≡◌, ◌∙◌, sym, ap}
use native.Mathlib.Nat.{zero-add}
use native.Mathlib.Omega.{arith}
use mathlib.Core.List.{List}
use lib.ListN.{length, take, drop, get_or, length-take, length-drop}
use lib.Seq.{get_or-take, get_or-drop}
use Rattle.std.proofs.Common.{Fits, w8}
use Rattle.std.proofs.lemmas.List.{take-take}
use Rattle.numbers.specs.Numbers.{bytes_of, be_of, number_at}
use Rattle.numbers.proofs.Laws.{number_none, number_more, number_cut, power_pos, power_up, power_more}
use Rattle.numbers.proofs.read.Goals as goal

-- a part that ends within the list has as many bytes as were asked for
cut : (s : List ℕ) (a k : ℕ) → a + k ≤ length s → length (take k (drop a s)) ≡ k
cut s a k h = simp (length-take, length-drop) (omega arith)

-- all of it is the number at its place
whole : (k : ℕ) (s : List ℕ) (a : ℕ) → number_at (take k (drop a s)) 0 k ≡ number_at s a k
unfolding number_at
whole k s a = ap be_of (take-take k k (drop a s) (omega arith))

-- one byte more of it
more : (l : List ℕ) (i : ℕ) → i < length l → number_at l 0 (i + 1) ≡ number_at l 0 i * 256 + get_or l i 0
more l i h = number_more l 0 i (omega arith) ∙ ap (λ (k : ℕ). number_at l 0 i * 256 + get_or l k 0) (zero-add i)

-- each byte of it is one of the list's
byte : (s : List ℕ) (a k i : ℕ) → i < length (take k (drop a s)) → ((j : ℕ) → Fits w8 (get_or s j 0)) → get_or (take k (drop a s)) i 0 < 256
byte s a k i h f =
    let l : i < k = omega (arith, length-take k (drop a s)) in
    rw (get_or-take k (drop a s) i 0 l, get_or-drop a s i 0) (f (a + i)).fits

-- fewer than eight bytes so far: another fits
room : (v i : ℕ) → i < 8 → v < 256 ^ i → v < 256 ^ 7
room v i h l = let below : 256 ^ i ≤ 256 ^ 7 = power_up {i = i} {j = 7} (omega arith) in omega arith

pub loop-b-init : goal.loop-b-init
loop-b-init c =
    (sym (number_none _ _), power_pos 0, simp (length-take, length-drop) (omega (arith, c.bytes.ensures.small)))

pub overflow_mul-value : goal.overflow_mul-value
overflow_mul-value c =
    let inv = c.loop-b.invariant in
    omega (arith, room c.loop-b.value c.loop-b.b-index (omega (arith, inv.2)) inv.1)

-- the next byte
next : (c : goal.After-from) → c.from.result < 256
next c = rw c.from.ensures (byte c.args.s.now _ _ _ c.loop-b-test.true c.type_inv.s)

pub overflow_add-value : goal.overflow_add-value
overflow_add-value c =
    let inv = c.loop-b.invariant in
    omega (arith, room c.loop-b.value c.loop-b.b-index (omega (arith, inv.2)) inv.1, next c)

pub loop-b-preserved : goal.loop-b-preserved
loop-b-preserved c =
    let inv = c.loop-b.invariant in
    (rw (more _ c.loop-b.b-index c.loop-b-test.true, ← inv.0, c.from.ensures), rw power_more (omega (arith, inv.1, next c)), inv.2)

-- at the end the value is that of the whole part, which the cut at the end of s leaves
pub returns-clause-value : goal.returns-clause-value
returns-clause-value c =
    let a = c.args in
    let s = a.s.now in
    let from = c.min-start.result in
    let to = c.min-end.result in
    let n = c.bytes.ensures.value in
    let k : length (take (to - from) (drop from s)) ≡ to - from = cut s from (to - from) (omega arith) in
    let e : c.loop-b.b-index ≡ to - from = omega (arith, k) in
    c.loop-b.invariant.0
    ∙ ap (λ (i : ℕ). number_at (take (to - from) (drop from s)) 0 i) e
    ∙ whole (to - from) s from
    ∙ number_cut s a.at (bytes_of a.w) from to c.min-start.ensures (omega (arith, n))

pub returns-clause-below : goal.returns-clause-below
returns-clause-below c =
    let n = c.bytes.ensures.value in
    let k = length-take (c.min-end.result - c.min-start.result) (drop c.min-start.result c.args.s.now) in
    let i : c.loop-b.b-index ≤ bytes_of c.args.w = omega (arith, n, k) in
    let below : 256 ^ c.loop-b.b-index ≤ 256 ^ bytes_of c.args.w = power_up i in
    omega (arith, c.loop-b.invariant.1)
