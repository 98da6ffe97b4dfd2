-- `text::hex_digits` meets its contract: each turn stores two digits behind those before them.
use native.Mathlib.Omega.{arith}
use Rattle.laws.proofs.Appends.{append-none}
use Rattle.text.proofs.Laws.{hex_stored, hex_filled}
use Rattle.text.proofs.hex_digits.Goals as goal

pub loop-k-init : goal.loop-k-init
loop-k-init c = append-none _ _

pub loop-k-preserved : goal.loop-k-preserved
loop-k-preserved c =
    rw (c.digit.ensures, c.digit-in-loop-k.ensures)
    (hex_stored c.args.block.now c.loop-k.digits c.loop-k.k (omega arith) (omega arith) c.loop-k.invariant)

pub returns : goal.returns
returns c = hex_filled c.args.block.now c.loop-k.digits c.loop-k.k _ (omega arith) c.loop-k.invariant
