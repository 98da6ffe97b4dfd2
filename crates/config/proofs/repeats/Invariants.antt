-- `config::repeats` meets its contract: an id stands twice among those left just where one does among all. The measure is how many are left.
use Rattle.std.proofs.Common.{◌≡◌, length}
use Rattle.config.specs.Config.{repeats_in}
use Rattle.config.proofs.repeats.Given as goal

abbrev pub invariant-loop-entry : goal.invariant-loop-entry
invariant-loop-entry l = repeats_in l.left ≡ repeats_in l.remotes

abbrev pub decreases-loop-entry : goal.decreases-loop-entry
decreases-loop-entry l = length l.left
