-- `steps::completion::waited` meets its contract: the flag and the step pick the branch.
use mathlib.Core.Path.{◌≡◌, sym, ◌∙◌}
use mathlib.Core.Bool.{Bool, true, false, ◌&&◌}
use mathlib.Core.Logic.{◌⊎◌, inl, inr}
use Rattle.transfer.proofs.Steps.{same_waiting}
use Rattle.steps.specs.Busy.{waited_of}
use Rattle.steps.proofs.completion.waited.Goals as goal

-- the flag is not set, or the transfer does not wait
stays : {timer b w : Bool} → (timer ≡ true × b ≡ false) ⊎ (timer ≡ false) → b ≡ w → (timer && w) ≡ false
stays (inl p) e = rw (p.0, sym e ∙ p.1)
stays (inr p) e = rw p

pub returns-then-waits : goal.returns-then-waits
unfolding waited_of
returns-then-waits c =
    rw (c.if-timer.true, ← same_waiting c.args.t.step, ← c.eq-waits.ensures, c.if-waits.true) (rw c.file-file.ensures at c.check_limit_handling.ensures)

pub returns : goal.returns
unfolding waited_of
returns c = rw (stays c.else-timer.either (c.eq-waits.ensures ∙ same_waiting c.args.t.step))
