-- `transfer::segment::segment_refusal` meets its contract: the two tests are the two conditions of the order.
use Prim.Native.Nat.{◌+◌, ◌^◌}
use native.Mathlib.Omega.{arith}
use borrow.Author.Tests.{le-leb, lt-leb}
use Rattle.transfer.specs.Segment.{segment_refusal, segment_order, progress_passes}
use Rattle.transfer.proofs.segment.segment_refusal.Goals as goal

pub returns-then-t-n : goal.returns-then-t-n
unfolding segment_refusal segment_order progress_passes
returns-then-t-n c = rw (le-leb (2 ^ 64) (c.args.t.file.progress + c.args.n) (omega arith))

pub returns-then-segment_fits : goal.returns-then-segment_fits
unfolding segment_refusal segment_order progress_passes
returns-then-segment_fits c = rw (lt-leb (2 ^ 64) (c.args.t.file.progress + c.args.n) (omega arith), ← c.segment_fits.ensures, c.if-segment_fits.true)

pub returns : goal.returns
unfolding segment_refusal segment_order progress_passes
returns c = rw (lt-leb (2 ^ 64) (c.args.t.file.progress + c.args.n) (omega arith), ← c.segment_fits.ensures, c.if-segment_fits.false)
