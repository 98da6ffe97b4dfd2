-- `numbers::write` meets its contract: what is copied are the number's low bytes, and where they do not fit nothing is.
use Prim.Native.Nat.{ℕ, ◌+◌, ◌-◌}
use mathlib.Core.Path.{◌≡◌, ◌∙◌, sym, ap}
use mathlib.Core.List.{List}
use native.Mathlib.Omega.{arith}
use lib.ListN.{length, take, drop}
use Rattle.std.specs.Int.{w64, to_be_bytes}
use Rattle.laws.specs.Parts.{pasted, written}
use Rattle.laws.proofs.Lists.{rest_of}
use Rattle.laws.proofs.Pasting.{written-fits, written-not, part_pasted}
use Rattle.numbers.specs.Numbers.{big_endian}
use Rattle.numbers.proofs.Laws.{length_big, big_tail}
use Rattle.numbers.proofs.write.Goals as goal
use Rattle.numbers.proofs.write.Goals.{else-at-out-via-then-at-out+else-n-out, else-at-out-via-else-at-out}

pub returns-then-n-out : goal.returns-then-n-out
returns-then-n-out c =
    let a = c.args in
    let s = a.out.now in
    let n = c.bytes-n.result in
    let d = c.copy_from_slice.new.self in
    let low : d ≡ big_endian n a.value =
    c.copy_from_slice.ensures.after
    ∙ ap (λ (l : List ℕ). take (8 - (8 - n)) (drop (8 - n) l)) c.to_be_bytes.ensures
    ∙ rest_of (to_be_bytes w64 a.value) (8 - n)
    ∙ big_tail n a.value c.bytes-n.ensures.small
    in
    part_pasted s a.at (a.at + n - a.at) d (ap length low ∙ length_big n a.value ∙ omega arith)
    ∙ ap (λ (l : List ℕ). pasted s a.at l) low
    ∙ sym (written-fits s a.at (big_endian n a.value) (rw length_big (omega arith)))
    ∙ ap (λ (k : ℕ). written s a.at (big_endian k a.value)) c.bytes-n.ensures.value

pub returns-else-at-out : goal.returns-else-at-out
returns-else-at-out c =
    sym (written-not _ _ _ (rw length_big (elim c.else-at-out.branch [ else-at-out-via-then-at-out+else-n-out w ↦ omega (arith, c.bytes-n.ensures.value) | else-at-out-via-else-at-out w ↦ omega (arith, c.bytes-n.ensures.value) ])))
