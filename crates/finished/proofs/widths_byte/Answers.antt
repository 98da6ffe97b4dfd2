-- `finished::widths_byte` meets its contract: each width is at least 1.
use native.Mathlib.Omega.{arith}
use Rattle.numbers.proofs.Laws.{bytes_pos}
use Rattle.finished.proofs.widths_byte.Goals as goal

pub overflow_sub-entity : goal.overflow_sub-entity
overflow_sub-entity c = omega (arith, c.bytes-entity.ensures.value, bytes_pos c.args.conf.idwidth)

pub overflow_sub-sequence : goal.overflow_sub-sequence
overflow_sub-sequence c = omega (arith, c.bytes-sequence.ensures.value, bytes_pos c.args.conf.seqwidth)
