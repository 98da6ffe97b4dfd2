-- `utf8::check` meets its contract. The loop's invariant: what the walk finds from `at` on, with what is owed there, is what it finds
-- of the whole. The measure is what is left of the length.
use mathlib.Core.Path.{refl}
use borrow.Author.Rules.{rules}
use Rattle.utf8.specs.Utf8.{checked_of}
use Rattle.utf8.specs.Steps.{ranges_of}
use Rattle.utf8.proofs.Grammar.{walked, walked_out}
use Rattle.utf8.proofs.check.Goals as goal

pub loop-at-init : goal.loop-at-init
unfolding checked_of ranges_of
loop-at-init c = (search rules, refl)

pub loop-at-preserved : goal.loop-at-preserved
loop-at-preserved c =
    (search rules, walked _ _ _ c.if-s-at.false (c.type_inv.s _).fits c.after.ensures c.in-Some.is c.loop-at.invariant.1)

pub returns-in_default : goal.returns-in_default
returns-in_default c =
    walked _ _ _ c.if-s-at.false (c.type_inv.s _).fits c.after.ensures c.in_default.is c.loop-at.invariant.1

pub returns-then-s-at : goal.returns-then-s-at
returns-then-s-at c = walked_out _ _ _ c.if-s-at.true c.end.ensures c.loop-at.invariant.1
