-- What a call sends.
use Rattle.std.specs.Prelude.{Some}
use Rattle.transfer.specs.Transfer.{Note}
use Rattle.std.specs.Prelude.{ℕ, ◌≡◌, true, List, length}
use Rattle.laws.specs.Parts.{filled}
use Rattle.codes.specs.Codes.{is_code}
use Rattle.finished.specs.Finished.{finished_bytes}
use Rattle.finished.specs.declared.FinishedPdu.{FinishedPdu}
use Rattle.transfer.specs.Transfer.{id_of}
use Rattle.transfer.specs.declared.Indication.{Indication}
use Rattle.state.specs.declared.State.{State}

-- nothing, and the out buffer stays; or a Finished PDU of the running transfer, in the bytes of the standard at the start of out, whose rest
-- stays: it says what the Finished indication says, and its condition is not cut
pub data Sends (s : State) (out : List ℕ) (sent : ℕ) (note : Note) (left : List ℕ) : Type 0 where
  nothing : sent ≡ 0 → left ≡ out → Sends s out sent note left
  finished : (f : FinishedPdu) → note ≡ Some (Indication.Finished (id_of s.transfer) f.condition f.complete f.retained) → is_code f.condition ≡ true → sent ≡ length (finished_bytes s.transfer.conf f s.config.local) → left ≡ filled out (finished_bytes s.transfer.conf f s.config.local) → Sends s out sent note left
