-- `utf8::check` meets its contract. The loop's invariant: what the walk finds from `at` on, with what is owed there, is what it finds
-- of the whole. The measure is what is left of the length.
use Prim.Native.Nat.{◌-◌, ◌≤◌}
use mathlib.Core.Path.{◌≡◌}
use lib.ListN.{length, drop}
use Rattle.utf8.specs.Utf8.{checked_from, checked_of}
use Rattle.utf8.specs.Steps.{owed_of}
use Rattle.utf8.proofs.check.Given as goal

abbrev pub invariant-loop-at : goal.invariant-loop-at
invariant-loop-at l = (l.at ≤ length l.s) × (checked_from (owed_of l.owed) l.at (drop l.at l.s) ≡ checked_of l.s)

abbrev pub decreases-loop-at : goal.decreases-loop-at
decreases-loop-at l = length l.s - l.at
