-- `inserting::metadata::names_refusal` meets its contract: the tests are the conditions of the order.
use Prim.Native.Nat.{ℕ}
use mathlib.Core.Path.{◌≡◌, sym, ◌∙◌}
use mathlib.Core.Bool.{true, false}
use mathlib.Core.List.{List}
use Rattle.std.specs.Prelude.{Ok, Err}
use Rattle.codes.proofs.Refusals.{handed_on}
use Rattle.utf8.specs.Utf8.{Checked, checked_of}
use Rattle.utf8.specs.declared.NotUtf8.{NotUtf8}
use Rattle.inserting.specs.Metadata.{not_utf8, names_order}
use Rattle.inserting.proofs.metadata.names_refusal.Goals as goal

pub returns-then-is_empty-2 : goal.returns-then-is_empty-2
unfolding names_order
returns-then-is_empty-2 c = rw (← c.is_empty.ensures, c.if-is_empty.true, ← c.is_empty-then-is_empty.ensures, c.if-is_empty-2.true)

pub returns-then-is_empty : goal.returns-then-is_empty
unfolding names_order
returns-then-is_empty c = rw (← c.is_empty.ensures, c.if-is_empty.true, ← c.is_empty-then-is_empty.ensures, c.if-is_empty-2.false)

pub returns-then-is_empty-3 : goal.returns-then-is_empty-3
unfolding names_order
returns-then-is_empty-3 c = rw (← c.is_empty.ensures, c.if-is_empty.false, ← c.is_empty-2.ensures, c.if-is_empty-3.true)

-- what the check answers, by its number
module _ (l : List ℕ) {r : Checked} (e : r ≡ checked_of l) where
  sound : {u : Unit {0}} → r ≡ Ok u → not_utf8 l ≡ false
  sound is = rw (sym e ∙ is)

  unsound : {b : NotUtf8} → r ≡ Err b → not_utf8 l ≡ true
  unsound is = rw (sym e ∙ is)

pub returns-in_err-check : goal.returns-in_err-check
unfolding names_order
returns-in_err-check c =
    rw
    (handed_on c.from_residual.ensures.1, ← c.is_empty.ensures, c.if-is_empty.false, ← c.is_empty-2.ensures, c.if-is_empty-3.false, unsound _ c.check.ensures c.in_err-check.was)

pub returns-in_err-check-2 : goal.returns-in_err-check-2
unfolding names_order
returns-in_err-check-2 c =
    rw
    (handed_on c.from_residual-in_err-check-2.ensures.1, ← c.is_empty.ensures, c.if-is_empty.false, ← c.is_empty-2.ensures, c.if-is_empty-3.false, sound _ c.check.ensures c.in_ok-check.was, unsound _ c.check-2.ensures c.in_err-check-2.was)

pub returns : goal.returns
unfolding names_order
returns c =
    rw
    (← c.is_empty.ensures, c.if-is_empty.false, ← c.is_empty-2.ensures, c.if-is_empty-3.false, sound _ c.check.ensures c.in_ok-check.was, sound _ c.check-2.ensures c.in_ok-check-2.was)
