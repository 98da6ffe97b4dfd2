-- `inserting::misplaced` meets its contract: the tests are the conditions of the order.
use borrow.Author.Tests.{eq-eqb, ne_eqb}
use Rattle.inserting.specs.Insert.{place_order, other}
use Rattle.inserting.proofs.misplaced.Goals as goal

pub returns-then-not-takes : goal.returns-then-not-takes
unfolding place_order
returns-then-not-takes c = rw c.if-not-takes.true

pub returns-then-c-t : goal.returns-then-c-t
unfolding place_order other
returns-then-c-t c = rw (c.if-not-takes.false, ne_eqb _ _ c.if-c-t.true)

pub returns-then-c-t-2 : goal.returns-then-c-t-2
unfolding place_order other
returns-then-c-t-2 c = rw (c.if-not-takes.false, eq-eqb _ _ c.if-c-t.false, ne_eqb _ _ c.if-c-t-2.true)

pub returns : goal.returns
unfolding place_order other
returns c = rw (c.if-not-takes.false, eq-eqb _ _ c.if-c-t.false, eq-eqb _ _ c.if-c-t-2.false)
