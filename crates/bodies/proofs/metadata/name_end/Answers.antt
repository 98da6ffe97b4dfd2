-- `bodies::metadata::name_end` meets its contract: the two tests are the two parts of what a whole name is.
use native.Mathlib.Omega.{arith}
use borrow.Author.Tests.{lt-ltb, le-ltb, le-leb, lt-leb}
use Rattle.bodies.specs.Metadata.{name_whole}
use Rattle.bodies.specs.Names.{name_read}
use Rattle.bodies.proofs.metadata.name_end.Goals as goal

pub returns-then-end-at : goal.returns-then-end-at
unfolding name_read name_whole
returns-then-end-at c = rw (le-ltb _ _ c.if-end-at.true)

pub overflow_cast-next : goal.overflow_cast-next
overflow_cast-next c = omega (arith, c.type_inv.field c.args.at)

pub overflow_add-next-2 : goal.overflow_add-next-2
overflow_add-next-2 c = omega (arith, c.well_formed, c.type_inv.field c.args.at)

pub returns-then-end-next : goal.returns-then-end-next
unfolding name_read name_whole
returns-then-end-next c = rw (lt-ltb _ _ c.if-end-at.false, lt-leb _ _ c.if-end-next.true)

pub returns : goal.returns
unfolding name_read name_whole
returns c = rw (lt-ltb _ _ c.if-end-at.false, le-leb _ _ c.if-end-next.false)
