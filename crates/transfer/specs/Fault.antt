-- Fault: cancel sets the condition and moves to completion; abandon goes idle at once, as after completion but with no Finished
-- indication or PDU; ignore changes nothing. Each of the three reports handler, id, condition, progress.
use Rattle.std.specs.Prelude.{Some}
use Rattle.transfer.specs.Transfer.{Note}
use Rattle.std.specs.Prelude.{ℕ, Bool, true, cond, not, ◌||◌, eqb}
use Rattle.codes.specs.Codes.{notice_of_cancellation, abandon_transaction}
use Rattle.transfer.specs.Transfer.{id_of, at_step, with_finish, idle_after}
use Rattle.transfer.specs.declared.TransactionStep.TheVariants.{Completion}
use Rattle.transfer.specs.declared.TransferState.{TransferState}
use Rattle.transfer.specs.declared.Indication.{Indication}
use Rattle.transfer.specs.declared.Declared.{Declared}

-- what a handler does: cancel, abandon; any other ignores
abbrev pub cancels : ℕ → Bool
cancels h = eqb h notice_of_cancellation

abbrev pub abandons : ℕ → Bool
abandons h = eqb h abandon_transaction

abbrev pub ignores : ℕ → Bool
ignores h = not (cancels h || abandons h)

-- cancelled with a condition: on to completion
abbrev pub cancelled_by : TransferState → ℕ → TransferState
cancelled_by t c =
    at_step
    (with_finish t (record { condition = c; complete = t.finish.complete; retained = t.finish.retained; cancelled = true }))
    Completion

-- what the handler makes of the transfer
unfoldable pub handled : ℕ → TransferState → ℕ → TransferState
handled h t c = cond (cancels h) (cancelled_by t c) (cond (abandons h) (idle_after t.file.length) t)

-- the report
abbrev pub reported : ℕ → TransferState → ℕ → Note
reported h t c = Some (Indication.Fault h (id_of t) c t.file.progress)

-- a fault, declared
unfoldable pub declared_of : ℕ → TransferState → ℕ → Declared
declared_of h t c = record { state = handled h t c; report = reported h t c }
