-- EOF: if progress > EOF size, fault 6; cancel or abandon ends EOF handling. Verify. True: completion. False: fault 5; cancel or abandon
-- ends EOF handling; ignore keeps the checksum, sets count 0 and waits.
use Rattle.std.specs.Prelude.{None}
use Rattle.transfer.specs.Transfer.{Note}
use Rattle.std.specs.Prelude.{ℕ, cond, List, ltb}
use Rattle.codes.specs.Codes.{file_checksum_failure, file_size_error}
use Rattle.bodies.specs.declared.eof.EofPdu.{EofPdu}
use Rattle.transfer.specs.Transfer.{at_step, with_check}
use Rattle.transfer.specs.Fault.{ignores, handled, reported}
use Rattle.transfer.specs.Verify.{verified_of}
use Rattle.transfer.specs.declared.TransactionStep.TheVariants.{Waiting, Completion}
use Rattle.transfer.specs.declared.TransferState.{TransferState}
use Rattle.steps.specs.declared.Faults.{Faults}
use Rattle.transfer.specs.declared.Verdict.TheVariants.{Good, Bad, Ended}
use Rattle.transfer.specs.declared.Verdict.{Verdict}
use Rattle.transfer.specs.declared.Verified.{Verified}
use Rattle.steps.specs.declared.EofHandled.{EofHandled}

abbrev pub eof_handled : TransferState → Note → Note → EofHandled
eof_handled t size sum = record { state = t; sizefault = size; sumfault = sum }

-- the wait: the checksum is kept, the count starts at 0
abbrev pub waiting_for : TransferState → ℕ → TransferState
waiting_for t sum = at_step (with_check t (record { checksum = sum; count = 0 })) Waiting

-- a sum that failed: fault 5 by its handler h
unfoldable pub failed_of : ℕ → TransferState → ℕ → Note → EofHandled
failed_of h t sum size = eof_handled (cond (ignores h) (waiting_for t sum) (handled h t file_checksum_failure)) size (reported h t file_checksum_failure)

-- by the verdict
abbrev pub eof_by : ℕ → ℕ → Note → Verdict → Verified → EofHandled
eof_by h sum size Good v = eof_handled (at_step v.state Completion) size v.report
eof_by h sum size Bad v = failed_of h v.state sum size
eof_by h sum size Ended v = eof_handled v.state size v.report

-- verification and what follows from it
unfoldable pub eof_verified : Faults → TransferState → List ℕ → ℕ → Note → EofHandled
eof_verified f t file sum size =
    eof_by f.checksum sum size (verified_of f.unsupported t file sum).verdict (verified_of f.unsupported t file sum)

-- an EOF with condition 0
unfoldable pub eof_handled_of : Faults → TransferState → List ℕ → EofPdu → EofHandled
eof_handled_of f t file e =
    cond (ltb e.size t.file.progress)
    (cond (ignores f.filesize) (eof_verified f t file e.checksum (reported f.filesize t file_size_error))
    (eof_handled (handled f.filesize t file_size_error) (reported f.filesize t file_size_error) None))
    (eof_verified f t file e.checksum None)
