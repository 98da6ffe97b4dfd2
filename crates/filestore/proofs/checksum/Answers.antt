-- `filestore::checksum` meets its contract. The loop's invariant: the sum so far and what the bytes left weigh are, modulo 2^32, the
-- sum of the file's words; the first byte left counts `weight`.
use Rattle.std.proofs.Common.{arith, drop_of_length-le}
use Rattle.filestore.specs.Checksum.{checksum_of}
use Rattle.filestore.proofs.Sums.{weighed, total-weighed, weighed_one, weight_small, weight_fits}
use Rattle.filestore.proofs.checksum.Goals as goal

pub loop-b-init : goal.loop-b-init
loop-b-init c = (omega arith, omega arith, omega (arith, total-weighed c.args.file.now))

pub overflow_mul-sum : goal.overflow_mul-sum
overflow_mul-sum c =
    record { fits = weight_fits c.loop-b.weight c.from.result c.loop-b.invariant.0 (rw c.from.ensures (c.type_inv.file c.loop-b.b-index).fits) }

pub loop-b-preserved : goal.loop-b-preserved
loop-b-preserved c =
    let inv = c.loop-b.invariant in
    let i = c.loop-b.b-index in
    let w = c.loop-b.weight in
    let f = c.args.file.now in
    let more = weighed_one w f i (omega arith) in
    (rw c.next_weight-weight.ensures (weight_small w inv.0), omega arith, rw (c.next_weight-weight.ensures, c.from.ensures) (omega (arith, more)))

pub returns : goal.returns
unfolding checksum_of weighed
returns c =
    let inv = c.loop-b.invariant in
    let f = c.args.file.now in
    omega (arith, rw (drop_of_length-le f {i = c.loop-b.b-index} (omega arith)) at inv.2)
