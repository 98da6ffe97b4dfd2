-- A comparison of steps is the definition's test of one.
use mathlib.Core.Path.{◌≡◌, refl}
use denote.Enum.Bare.{sameb}
use Rattle.transfer.specs.contracts.TransactionStep.{the_type}
use Rattle.transfer.specs.declared.TransactionStep.{TransactionStep}
use Rattle.transfer.specs.declared.TransactionStep.TheVariants.{Idle, Receiving, Waiting, Completion}
use Rattle.transfer.specs.Transfer.{is_idle, is_receiving, is_waiting, is_completion}

pub same_idle : (x : TransactionStep) → sameb the_type x Idle ≡ is_idle x
same_idle Idle = refl
same_idle Receiving = refl
same_idle Waiting = refl
same_idle Completion = refl

pub same_receiving : (x : TransactionStep) → sameb the_type x Receiving ≡ is_receiving x
same_receiving Idle = refl
same_receiving Receiving = refl
same_receiving Waiting = refl
same_receiving Completion = refl

pub same_waiting : (x : TransactionStep) → sameb the_type x Waiting ≡ is_waiting x
same_waiting Idle = refl
same_waiting Receiving = refl
same_waiting Waiting = refl
same_waiting Completion = refl

pub same_completion : (x : TransactionStep) → sameb the_type x Completion ≡ is_completion x
same_completion Idle = refl
same_completion Receiving = refl
same_completion Waiting = refl
same_completion Completion = refl
