-- `options::read` meets its contract. The loop's invariant: the walk from the present place, with what was seen of Messages to
-- User, finds what the walk from the first place finds. The measure is what is left of the length.
use Prim.Native.Nat.{◌-◌}
use mathlib.Core.Path.{◌≡◌}
use lib.ListN.{length}
use Rattle.options.specs.Options.{options_of}
use Rattle.options.proofs.Walk.{walk}
use Rattle.options.proofs.read.Given as goal

abbrev pub invariant-loop-step : goal.invariant-loop-step
invariant-loop-step l = walk l.field l.place l.message ≡ options_of l.field l.at

abbrev pub decreases-loop-step : goal.decreases-loop-step
decreases-loop-step l = length l.field - l.place
