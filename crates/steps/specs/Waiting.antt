-- Waiting, flag set: verify; true gives completion. Else if count + 1 >= limit, fault 10; else count grows by 1. An EOF's own call counts.
use Rattle.std.specs.Prelude.{None}
use Rattle.std.specs.Prelude.{ℕ, ◌+◌, cond, List, leb}
use Rattle.codes.specs.Codes.{check_limit_reached}
use Rattle.transfer.specs.Transfer.{at_step, with_check}
use Rattle.transfer.specs.Fault.{declared_of}
use Rattle.transfer.specs.Verify.{verified_of}
use Rattle.transfer.specs.declared.TransactionStep.TheVariants.{Completion}
use Rattle.transfer.specs.declared.TransferState.{TransferState}
use Rattle.steps.specs.declared.Faults.{Faults}
use Rattle.transfer.specs.declared.Verdict.{Verdict}
use Rattle.transfer.specs.declared.Verdict.TheVariants.{Good, Bad, Ended}
use Rattle.transfer.specs.declared.Verified.{Verified}
use Rattle.transfer.specs.declared.Declared.{Declared}

-- a sum that failed again: the limit's fault by its handler h, or one more counted
unfoldable pub limit_of : ℕ → ℕ → TransferState → Declared
limit_of h limit t =
    cond (leb limit (t.check.count + 1)) (declared_of h t check_limit_reached)
    (record { state = with_check t (record { checksum = t.check.checksum; count = t.check.count + 1 }); report = None })

-- by the verdict
abbrev pub check_by : ℕ → ℕ → Verdict → Verified → Declared
check_by h limit Good v = record { state = at_step v.state Completion; report = v.report }
check_by h limit Bad v = limit_of h limit v.state
check_by h limit Ended v = record { state = v.state; report = v.report }

-- one expiry of the timer, with the remote entity's check limit
unfoldable pub check_of : Faults → ℕ → TransferState → List ℕ → Declared
check_of f limit t file =
    check_by f.checklimit limit (verified_of f.unsupported t file t.check.checksum).verdict
    (verified_of f.unsupported t file t.check.checksum)
