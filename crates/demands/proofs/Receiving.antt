-- From a fresh receiver on, a transfer that receives has condition 0: what gives it another ends the receiving.
use Prim.Native.Nat.{ℕ}
use mathlib.Core.Path.{◌≡◌, refl}
use mathlib.Core.Bool.{Bool, true, false≢true}
use mathlib.Core.List.{List, [], ◌∷◌}
use lib.Dec.{eqb}
use lib.ListN.{length}
use Rattle.laws.proofs.Tests.{by_cond}
use Rattle.codes.specs.Codes.{no_error, filestore_rejection}
use Rattle.header.specs.Header.{conf_of, data_field}
use Rattle.header.specs.declared.CommonPduConfig.{CommonPduConfig}
use Rattle.packet_info.specs.Routing.{is_file_data, kind_of}
use Rattle.packet_info.specs.declared.Target.{Target}
use Rattle.config.specs.declared.Config.{Config}
use Rattle.transfer.specs.Transfer.{is_receiving, idle_after, started_of}
use Rattle.transfer.specs.Segment.{Kept, segment_by, segmented_of}
use Rattle.transfer.specs.declared.TransferState.{TransferState}
use Rattle.steps.specs.declared.Faults.{Faults}
use Rattle.state.specs.State.{busy, fresh_of, settled, begun}
use Rattle.state.specs.Unfit.{unfit_refusal}
use Rattle.state.specs.declared.State.{State}
use Rattle.inserting.specs.Insert.{Placed, body_refusal, segment_offset, segment_bytes, segment_placed, segment_taken, file_data_placed, eof_call_refusal, eof_taken, eof_inserted}
use Rattle.dest.specs.Metadata.{metadata_refusal, start_of, begun_of}
use Rattle.dest.specs.Call.{Input, Outcome, ran_of, busy_call, refused_of, after_insert, file_data_call, eof_call, start_called, started_call, target_call, entry_refusal, insert_call, poll_call, call_of}
use Rattle.inserting.specs.Insert.{Inserted}
use Rattle.dest.specs.Call.{Called}
use Rattle.demands.specs.Runs.{Held, Given, fresh_held, called_with, after, run_of}
use Rattle.demands.proofs.Through.{Through, through-handled, through-eof, through-busy}

abbrev pub Clear : TransferState → Type 0
Clear t = is_receiving t.step ≡ true → t.finish.condition ≡ no_error

idle_clear : (n : ℕ) → Clear (idle_after n)
unfolding idle_after
idle_clear n e = absurd (false≢true e)

clear-through : Through Clear
clear-through =
    record {
      abandon = λ t k. idle_clear t.file.length;
      cancel = λ t c k e. absurd (false≢true e);
      complete = λ t k e. absurd (false≢true e);
      wait = λ t sum k e. absurd (false≢true e);
      count = λ t c k e. k e;
      deliver = λ t k e. k e;
    }

-- file data and EOF
segment-clear : (n h : ℕ) (t : TransferState) (store : List ℕ) (o : ℕ) (d : List ℕ) → Clear t → Clear (segment_by n h t store o d).segmented.state
unfolding segment_by
segment-clear n h t store o d k =
    by_cond (λ (x : Kept). Clear x.segmented.state) (eqb n 0) _ _ k
    (by_cond (λ (x : Kept). Clear x.segmented.state) (eqb n 19) _ _ (through-handled Clear clear-through h t filestore_rejection k) k)

data_clear : (h : ℕ) (notify : Bool) (t : TransferState) (store : List ℕ) (c : CommonPduConfig) (m : Bool) (d : List ℕ) → Clear t → Clear (file_data_placed h notify t store c m d).inserted.transfer
unfolding file_data_placed segment_placed segment_taken segmented_of
data_clear h notify t store c m d k =
    by_cond (λ (p : Placed). Clear p.inserted.transfer) (eqb (body_refusal t c m d) 0) _ _
    (segment-clear _ h t store (segment_offset c m d) (segment_bytes c m d) k)
    k

eof-inserted-clear : (f : Faults) (notify : Bool) (t : TransferState) (file : List ℕ) (c : CommonPduConfig) (d : List ℕ) → Clear t → Clear (eof_inserted f notify t file c d).transfer
unfolding eof_inserted eof_taken
eof-inserted-clear f notify t file c d k =
    by_cond (λ (i : Inserted). Clear i.transfer) (eqb (eof_call_refusal t c d) 0) _ _ (through-eof Clear clear-through f t file _ k) k

-- a call
abbrev Leaves : Outcome → Type 0
Leaves o = Clear o.called.state.transfer

module _ (s : State) (k : Clear s.transfer) (out : List ℕ) (timer : Bool) where
  run_clear : (i : Inserted) (store : List ℕ) → Clear i.transfer → Leaves (busy_call s i store out timer)
  unfolding busy_call ran_of settled
  run_clear i store c = through-busy Clear clear-through _ _ i.transfer c idle_clear store out timer

  refused-clear : (i : Inserted) → Clear i.transfer → Clear (refused_of s i).state.transfer
  unfolding refused_of settled
  refused-clear i c = by_cond (λ (x : Called). Clear x.state.transfer) (eqb i.answer 19) _ _ c k

  after-clear : (i : Inserted) (store : List ℕ) → Clear i.transfer → Leaves (after_insert s i store out timer)
  unfolding after_insert
  after-clear i store c = by_cond Leaves (eqb i.answer 0) _ _ (run_clear i store c) (refused-clear i c)

  start-clear : (c : CommonPduConfig) (d : List ℕ) → Clear (started_call s c d).state.transfer
  unfolding started_call start_called begun_of begun start_of started_of
  start-clear c d = by_cond (λ (x : Called). Clear x.state.transfer) (eqb (metadata_refusal s c d) 0) _ _ (λ e. refl) k

  target_clear : (x : Target) (store : List ℕ) (c : CommonPduConfig) (m : Bool) (d : List ℕ) → Leaves (target_call x s store out c m d timer)
  unfolding file_data_call eof_call
  target_clear Target.FileData store c m d = after-clear _ _ (data_clear _ _ s.transfer store c m d k)
  target_clear Target.Metadata store c m d = start-clear c d
  target_clear Target.Eof store c m d = after-clear _ store (eof-inserted-clear _ _ s.transfer _ c d k)

  call_clear : (store : List ℕ) (i : Input) → Leaves (call_of s store out i timer)
  unfolding call_of poll_call insert_call
  call_clear store Input.poll =
      by_cond Leaves (eqb (unfit_refusal s (length store) (length out)) 0) _ _ (by_cond Leaves (busy s) _ _ (run_clear _ store k) k) k
  call_clear store (Input.packet pdu) =
      by_cond Leaves (eqb (entry_refusal s (length store) (length out) pdu) 0) _ _
      (target_clear (kind_of (is_file_data pdu) (data_field pdu)) store (conf_of pdu) _ (data_field pdu))
      k

-- a run
run_keeps : (h : Held) (xs : List Given) → Clear h.state.transfer → Clear (run_of h xs).state.transfer
unfolding run_of
run_keeps h [] k = k
run_keeps h (x ∷ rest) k =
    run_keeps (after (called_with h x)) rest (call_clear h.state k h.out x.timer h.store x.input)

-- from a fresh receiver
pub fresh-clear : (g : Config) (store out : List ℕ) (xs : List Given) → Clear (run_of (fresh_held g store out) xs).state.transfer
unfolding fresh_of
fresh-clear g store out xs = run_keeps (fresh_held g store out) xs (idle_clear 0)
