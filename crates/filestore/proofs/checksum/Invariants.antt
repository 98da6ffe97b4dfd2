-- `filestore::checksum` meets its contract. The loop's invariant: the sum so far and what the bytes left weigh are, modulo 2^32, the
-- sum of the file's words; the first byte left counts `weight`.
use Rattle.std.proofs.Common.{◌≡◌, ◌+◌, ◌%◌, ◌^◌, ◌<◌, ◌≤◌, drop}
use Rattle.filestore.specs.Checksum.{total}
use Rattle.filestore.proofs.Sums.{weighed}
use Rattle.filestore.proofs.checksum.Given as goal

abbrev pub invariant-loop-b : goal.invariant-loop-b
invariant-loop-b l = (l.weight ≤ 2 ^ 24) × (l.sum < 2 ^ 32) × ((l.sum + weighed l.weight (drop l.b-index l.file)) % 2 ^ 32 ≡ total l.file % 2 ^ 32)
