-- Verify: type 0: the file's sum equals the EOF checksum. Type 15: true. Other: fault 11, then true, unless its handler abandons,
-- which ends the call's work. True makes delivery complete, also where fault 11 cancelled.
use Rattle.std.specs.Prelude.{None}
use Rattle.transfer.specs.Transfer.{Note}
use Rattle.std.specs.Prelude.{ℕ, true, cond, List, eqb}
use Rattle.codes.specs.Codes.{unsupported_checksum_type, modular, null_checksum}
use Rattle.filestore.specs.Checksum.{checksum_of}
use Rattle.transfer.specs.Transfer.{with_finish}
use Rattle.transfer.specs.Fault.{abandons, handled, reported}
use Rattle.transfer.specs.declared.TransferState.{TransferState}
use Rattle.transfer.specs.declared.Verdict.{Verdict}
use Rattle.transfer.specs.declared.Verified.{Verified}

-- delivery complete
abbrev pub completed : TransferState → TransferState
completed t =
    with_finish t
    (record { condition = t.finish.condition; complete = true; retained = t.finish.retained; cancelled = t.finish.cancelled })

abbrev pub verified : TransferState → Verdict → Note → Verified
verified t v i = record { state = t; verdict = v; report = i }

-- an unsupported type, by the handler h of fault 11
unfoldable pub unsupported_of : ℕ → TransferState → Verified
unsupported_of h t =
    cond (abandons h) (verified (handled h t unsupported_checksum_type) Verdict.Ended (reported h t unsupported_checksum_type))
    (verified (completed (handled h t unsupported_checksum_type)) Verdict.Good (reported h t unsupported_checksum_type))

-- the verdict on a file by a checksum
unfoldable pub verified_of : ℕ → TransferState → List ℕ → ℕ → Verified
verified_of h t file sum =
    cond (eqb t.checksumtype modular)
    (cond (eqb (checksum_of file) sum) (verified (completed t) Verdict.Good None) (verified t Verdict.Bad None))
    (cond (eqb t.checksumtype null_checksum) (verified (completed t) Verdict.Good None) (unsupported_of h t))
