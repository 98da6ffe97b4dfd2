-- `numbers::read` meets its contract. The loop's invariant: the value is that of the bytes so far, and below 256 to their count.
use Prim.Native.Nat.{◌^◌, ◌<◌, ◌≤◌}
use mathlib.Core.Path.{◌≡◌}
use lib.ListN.{length}
use Rattle.numbers.specs.Numbers.{number_at}
use Rattle.numbers.proofs.read.Given as goal

abbrev pub invariant-loop-b : goal.invariant-loop-b
invariant-loop-b l = (l.value ≡ number_at l.part 0 l.b-index) × (l.value < 256 ^ l.b-index) × (length l.part ≤ 8)
