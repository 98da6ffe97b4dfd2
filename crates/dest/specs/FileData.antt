-- A call with file data as the code has it: the file's numbers alone are carried, and the state is put together only where the call ends.
-- proofs/FileData.antt says that this is what Call.antt has.
use Rattle.std.specs.Prelude.{ℕ, Bool, cond, List, Option, None, Result}
use Rattle.std.specs.Result.{result_ok}
use Rattle.codes.specs.declared.Refusal.{Refusal}
use Rattle.transfer.specs.declared.FileState.{FileState}
use Rattle.codes.specs.Codes.{filestore_rejection}
use Rattle.config.specs.Config.{handler_of}
use Rattle.transfer.specs.Transfer.{is_receiving}
use Rattle.transfer.specs.declared.TransactionStep.{TransactionStep}
use Rattle.state.specs.declared.State.{State}
use Rattle.dest.specs.Call.{Outcome, after_insert}
use Rattle.inserting.specs.FileData.{Taken, segment_inserted}

-- the call behind file data that left the file so
unfoldable pub data_call : State → Taken → List ℕ → List ℕ → Bool → Outcome
data_call s k store out timer =
    after_insert s (segment_inserted (handler_of s.config.handlers filestore_rejection) s.config.segmentrecv s.transfer k) store out timer

-- the file that file data left, where they were taken in the receiving step
abbrev pub rested : Result FileState Refusal → TransactionStep → Option FileState
rested file x = cond (is_receiving x) (result_ok file) None
