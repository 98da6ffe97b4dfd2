-- `dest::unchanged` meets its contract: the indications are none.

use Rattle.dest.proofs.unchanged.Goals as goal

pub returns : goal.returns
returns c = rw c.no_notes.ensures
