-- `state::unfit` meets its contract: the three tests are the conditions of the order.
use borrow.Author.Tests.{lt-ltb, le-ltb}
use Rattle.state.specs.Unfit.{unfit_refusal, unfit_order}
use Rattle.state.proofs.unfit.Goals as goal

pub returns-then-broken : goal.returns-then-broken
unfolding unfit_refusal unfit_order
returns-then-broken c = rw (← c.broken.ensures, c.if-broken.true)

pub returns-then-store_unfit : goal.returns-then-store_unfit
unfolding unfit_refusal unfit_order
returns-then-store_unfit c = rw (← c.broken.ensures, c.if-broken.false, ← c.store_unfit.ensures, c.if-store_unfit.true)

pub returns-then-out-lt-OUT_SIZE : goal.returns-then-out-lt-OUT_SIZE
unfolding unfit_refusal unfit_order
returns-then-out-lt-OUT_SIZE c =
    rw (← c.broken.ensures, c.if-broken.false, ← c.store_unfit.ensures, c.if-store_unfit.false, lt-ltb _ _ c.if-out-lt-OUT_SIZE.true)

pub returns : goal.returns
unfolding unfit_refusal unfit_order
returns c = rw (← c.broken.ensures, c.if-broken.false, ← c.store_unfit.ensures, c.if-store_unfit.false, le-ltb _ _ c.if-out-lt-OUT_SIZE.false)
