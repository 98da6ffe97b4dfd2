-- `parts::copy_at` meets its contract: where the piece fits, it is what was copied, and else nothing was.
use Prim.Native.Nat.{ℕ, ◌+◌, ◌-◌}
use mathlib.Core.Path.{◌≡◌, ◌∙◌, sym, ap}
use mathlib.Core.List.{List}
use native.Mathlib.Omega.{arith}
use lib.ListN.{length}
use Rattle.laws.specs.Parts.{pasted}
use Rattle.laws.proofs.Pasting.{written-fits, written-not, part_pasted}
use Rattle.parts.proofs.copy_at.Goals as goal
use Rattle.parts.proofs.copy_at.Goals.{else-at-buffer-via-then-at-buffer+else-n-buffer, else-at-buffer-via-else-at-buffer}

pub returns-then-n-buffer : goal.returns-then-n-buffer
returns-then-n-buffer c =
    let a = c.args in
    let d = a.piece.now in
    let n : a.at + length d - a.at ≡ length d = omega arith in
    let same = c.copy_from_slice.ensures.after in
    part_pasted a.buffer.now a.at (a.at + length d - a.at) c.copy_from_slice.new.self (ap length same ∙ sym n)
    ∙ ap (λ (l : List ℕ). pasted a.buffer.now a.at l) same
    ∙ sym (written-fits a.buffer.now a.at d (omega arith))

pub returns-else-at-buffer : goal.returns-else-at-buffer
returns-else-at-buffer c =
    sym (written-not _ _ _ (elim c.else-at-buffer.branch [ else-at-buffer-via-then-at-buffer+else-n-buffer w ↦ omega arith | else-at-buffer-via-else-at-buffer w ↦ omega arith ]))
