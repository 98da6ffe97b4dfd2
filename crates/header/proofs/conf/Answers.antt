-- `header::conf` meets its contract: widths that no refusal meets are those of `Width`, and each number is read at its place.
use native.Mathlib.Omega.{arith}
use native.Mathlib.Nat.{div-one}
use Rattle.numbers.proofs.Laws.{width_bytes}
use Rattle.header.specs.Header.{conf_of, entity_width, sequence_width}
use Rattle.header.proofs.Laws.{whole}
use Rattle.header.proofs.conf.Goals as goal

pub bounds-s-0 : goal.bounds-s-0
bounds-s-0 c = omega (arith, (whole _ c.requires).long)

pub bounds-s-3 : goal.bounds-s-3
bounds-s-3 c = omega (arith, (whole _ c.requires).long)

pub returns : goal.returns
unfolding conf_of
returns c =
    let s = c.args.s.now in
    let w = whole s c.requires in
    let id = c.to_width-idwidth.ensures in
    let sq = c.to_width-seqwidth.ensures in
    rw
    (c.read.ensures.value, c.read-2.ensures.value, c.read-3.ensures.value, id, sq, width_bytes (entity_width s) w.entity, width_bytes (sequence_width s) w.sequence, div-one)
