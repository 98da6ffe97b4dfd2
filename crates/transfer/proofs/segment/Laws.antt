-- What a segment that is not refused tells of its numbers.
use Prim.Native.Nat.{ℕ, ◌+◌, ◌^◌, ◌<◌}
use mathlib.Core.Path.{◌≡◌}
use mathlib.Core.Bool.{true}
use borrow.Author.Tests.{leb-false, not-false}
use Rattle.laws.proofs.Order.{clear}
use Rattle.filestore.specs.File.{segment_fits}
use Rattle.transfer.specs.Segment.{progress_passes, segment_order, segment_refusal}
use Rattle.transfer.specs.declared.TransferState.{TransferState}

-- progress stays below 2^64
pub progress_fits : (t : TransferState) (size o n : ℕ) → segment_refusal t size o n ≡ 0 → t.file.progress + n < 2 ^ 64
unfolding segment_refusal segment_order progress_passes
progress_fits t size o n e = leb-false (2 ^ 64) _ (clear (segment_order t size o n) tt e).0

-- and the segment fits the store
pub segment-fits : (t : TransferState) (size o n : ℕ) → segment_refusal t size o n ≡ 0 → segment_fits size o n ≡ true
unfolding segment_refusal segment_order
segment-fits t size o n e = not-false _ (clear (segment_order t size o n) tt e).1.0
