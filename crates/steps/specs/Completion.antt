-- Completion: if cancelled, incomplete and the remote entry says discard, length 0 and status discarded. Finished indication always. With
-- closure, the Finished PDU. Then idle, equal to a fresh state but for file length and last id.
use Rattle.std.specs.Prelude.{Some}
use Rattle.transfer.specs.Transfer.{Note}
use Rattle.std.specs.Prelude.{ℕ, Bool, false, cond, not, ◌&&◌, List}
use Rattle.codes.specs.Refusals.{Answer}
use Rattle.finished.specs.Finished.{finished_of}
use Rattle.finished.specs.declared.EntityId.{EntityId}
use Rattle.finished.specs.declared.FinishedPdu.{FinishedPdu}
use Rattle.transfer.specs.Transfer.{id_of, idle_after}
use Rattle.transfer.specs.declared.TransferState.{TransferState}
use Rattle.transfer.specs.declared.Indication.{Indication}
use Rattle.steps.specs.declared.Completed.{Completed}

-- whether the file is discarded
unfoldable pub discards : TransferState → Bool → Bool
discards t discard = t.finish.cancelled && (not t.finish.complete && discard)

-- what the Finished PDU and indication say
unfoldable pub finish_of : TransferState → Bool → FinishedPdu
finish_of t discard =
    record {
      condition = t.finish.condition;
      complete = t.finish.complete;
      retained = cond (discards t discard) false t.finish.retained;
    }

-- the Finished indication
unfoldable pub finished_note : TransferState → Bool → Note
finished_note t discard =
    Some (Indication.Finished (id_of t) (finish_of t discard).condition (finish_of t discard).complete (finish_of t discard).retained)

-- how many bytes were sent
abbrev pub sent_bytes : Answer ℕ → ℕ
sent_bytes (Answer.Good n) = n
sent_bytes (Answer.Refused n) = 0

-- the file's length afterwards
unfoldable pub kept_length : TransferState → Bool → ℕ
kept_length t discard = cond (discards t discard) 0 t.file.length

-- what completion leaves, the out buffer with it
pub record Ended : Type 0 where
  pub completed : Completed
  pub out : List ℕ

abbrev pub ended : Completed → List ℕ → Ended
ended c out = record { completed = c; out = out }

unfoldable pub completion_of : EntityId → Bool → TransferState → List ℕ → Ended
completion_of local discard t out =
    cond t.closure
    (ended
    (record {
      state = idle_after (kept_length t discard);
      finished = finished_note t discard;
      sent = sent_bytes (finished_of out t.conf (finish_of t discard) local).answer;
    })
    (finished_of out t.conf (finish_of t discard) local).out)
    (ended (record { state = idle_after (kept_length t discard); finished = finished_note t discard; sent = 0 }) out)
