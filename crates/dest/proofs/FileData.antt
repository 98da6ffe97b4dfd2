-- File data as the code carries them are what the definition has: the number of the refusal decides on both sides.
use Prim.Native.Nat.{ℕ}
use mathlib.Core.Path.{◌≡◌, ap}
use mathlib.Core.Bool.{Bool, true, false≢true}
use mathlib.Core.List.{List}
use lib.Dec.{eqb}
use Rattle.codes.specs.Codes.{filestore_rejection}
use Rattle.std.specs.Prelude.{Option, Some, None, Result, Ok, Err, is_some}
use Rattle.std.specs.Result.{result_ok}
use Rattle.codes.specs.declared.Refusal.{Refusal}
use Rattle.laws.proofs.Picked.{picked_first}
use Rattle.header.specs.declared.CommonPduConfig.{CommonPduConfig}
use Rattle.config.specs.Config.{handler_of}
use Rattle.transfer.specs.Transfer.{is_receiving, with_file}
use Rattle.transfer.specs.declared.FileState.{FileState}
use Rattle.transfer.specs.declared.TransactionStep.{TransactionStep}
use Rattle.state.specs.State.{settled}
use Rattle.state.specs.declared.State.{State}
use Rattle.inserting.specs.Insert.{segment_note}
use Rattle.dest.specs.Call.{outcome, called, notes, ran_of, busy_call, after_insert, file_data_call}
use Rattle.inserting.specs.FileData.{Taken, taken_of, segment_inserted}
use Rattle.dest.specs.FileData.{data_call, rested}
use Rattle.dest.proofs.Started.{alone, receiving-rests}
use Rattle.inserting.proofs.FileData.{data_same}

-- so a call with file data is the call behind what the code carries
pub data_call_lem : (s : State) (store out : List ℕ) (c : CommonPduConfig) (m : Bool) (d : List ℕ) (timer : Bool) → file_data_call s store out c m d timer ≡ data_call s (taken_of s.transfer store c m d).left (taken_of s.transfer store c m d).store out timer
unfolding file_data_call data_call
data_call_lem s store out c m d timer =
    rw (data_same (handler_of s.config.handlers filestore_rejection) s.config.segmentrecv s.transfer store c m d)

abbrev value : FileState → Option FileState → FileState
value d (Some f) = f
value d None = d

-- the file that was left in the receiving step
pub rested_tells : (file : Result FileState Refusal) (x : TransactionStep) (f : FileState) → rested file x ≡ Some f → (is_receiving x ≡ true) × (file ≡ Ok f)
rested_tells file x f e =
    let p = picked_first (is_receiving x) (λ q. false≢true (ap is_some q)) e in
    (p.0, took_file file p.1)
  where
    took_file : (r : Result FileState Refusal) → result_ok r ≡ Some f → r ≡ Ok f
    took_file (Ok g) q = ap Ok (ap (value f) q)
    took_file (Err m) q = absurd (false≢true (ap is_some q))

-- in the receiving step the busy steps leave the transfer as it is
pub received-rests : (s : State) (k : Taken) (store out : List ℕ) (timer : Bool) → eqb k.answer 0 ≡ true → is_receiving s.transfer.step ≡ true → outcome (called 0 (record { config = s.config; transfer = with_file s.transfer k.file; last = s.last; source = s.source; dest = s.dest }) 0 (notes (segment_note s.config.segmentrecv s.transfer k.offset k.count) None None None None)) store out ≡ data_call s k store out timer
unfolding data_call after_insert segment_inserted busy_call ran_of settled
received-rests s k store out timer none receives =
    let a = alone s.transfer.step receives in
    rw (none, receiving-rests _ _ (with_file s.transfer k.file) store out timer receives, a.idle)
