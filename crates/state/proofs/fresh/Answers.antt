-- `state::fresh` meets its contract: whether the configuration is broken picks the answer.
use Rattle.state.specs.State.{fresh_of, no_id}
use Rattle.state.proofs.fresh.Goals as goal

pub returns-then-broken : goal.returns-then-broken
returns-then-broken c = rw (← c.broken.ensures, c.if-broken.true)

pub returns-else-broken : goal.returns-else-broken
unfolding fresh_of no_id
returns-else-broken c = rw (c.idle_after.ensures, c.no_name.ensures, c.no_name-else-broken.ensures, ← c.broken.ensures, c.if-broken.false)
