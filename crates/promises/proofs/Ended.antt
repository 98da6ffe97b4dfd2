-- A transfer that ends in a call leaves a fresh state but for file length and last id: each layer of the call leaves a running transfer
-- running or clean, and an idle transfer's names are gone.
use Prim.Native.Nat.{ℕ}
use mathlib.Core.Path.{◌≡◌, refl, sym, ◌∙◌}
use mathlib.Core.Bool.{Bool, true, false, false≢true}
use mathlib.Core.List.{List}
use lib.Dec.{eqb}
use lib.ListN.{length}
use borrow.Author.Tests.{not-true, not-false}
use Rattle.laws.proofs.Tests.{by_cond}
use Rattle.header.specs.Header.{conf_of, data_field}
use Rattle.header.specs.declared.CommonPduConfig.{CommonPduConfig}
use Rattle.packet_info.specs.Routing.{is_file_data, kind_of}
use Rattle.packet_info.specs.declared.Target.{Target}
use Rattle.config.specs.declared.Config.{Config}
use Rattle.transfer.specs.Transfer.{is_idle, idle_after, started_of}
use Rattle.transfer.specs.Segment.{segmented_of}
use Rattle.transfer.specs.declared.TransferState.{TransferState}
use Rattle.steps.specs.declared.Faults.{Faults}
use Rattle.state.specs.State.{busy, settled, begun, no_name, fresh_of}
use Rattle.state.specs.Unfit.{unfit_refusal}
use Rattle.state.specs.declared.State.{State}
use Rattle.inserting.specs.Insert.{Placed, body_refusal, segment_offset, segment_bytes, segment_placed, segment_taken, file_data_placed, eof_call_refusal, eof_taken, eof_inserted}
use Rattle.dest.specs.Metadata.{metadata_refusal, start_of, begun_of}
use Rattle.dest.specs.Call.{Input, Outcome, ran_of, busy_call, refused_of, after_insert, file_data_call, eof_call, start_called, started_call, target_call, entry_refusal, insert_call, poll_call, call_of}
use Rattle.inserting.specs.Insert.{Inserted}
use Rattle.dest.specs.Call.{Called}
use Rattle.promises.proofs.Clean.{Running, Clean, running_clean, segment_clean, eof_clean, busy_clean}

-- the state that a transfer which ends with a file of that length leaves
abbrev pub over_of : State → ℕ → State
over_of s len = record { config = s.config; transfer = idle_after len; last = s.last; source = no_name; dest = no_name }

-- a fresh state is one of them: length 0 and no last id
pub fresh-over : (g : Config) → over_of (fresh_of g) 0 ≡ fresh_of g
unfolding fresh_of
fresh-over g = refl

-- a new state that is over where its transfer is idle
abbrev Over : State → State → Type 0
Over s x = is_idle x.transfer.step ≡ true → x ≡ over_of s x.transfer.file.length

-- an idle transfer's names are gone
settled-over : (s : State) (t : TransferState) → Clean t → Over s (settled s t)
unfolding settled idle_after
settled-over s t clean e = rw (e, clean e)

-- a PDU that is inserted
module _ (notify : Bool) (t : TransferState) (running : Running t) (c : CommonPduConfig) (d : List ℕ) where
  file_data_clean : (h : ℕ) (store : List ℕ) (m : Bool) → Clean (file_data_placed h notify t store c m d).inserted.transfer
  unfolding file_data_placed segment_placed segment_taken segmented_of
  file_data_clean h store m =
      by_cond (λ (p : Placed). Clean p.inserted.transfer) (eqb (body_refusal t c m d) 0) _ _
      (segment_clean _ h t store (segment_offset c m d) (segment_bytes c m d) running)
      (running_clean running)

  eof_inserted_clean : (f : Faults) (file : List ℕ) → Clean (eof_inserted f notify t file c d).transfer
  unfolding eof_inserted eof_taken
  eof_inserted_clean f file =
      by_cond (λ (i : Inserted). Clean i.transfer) (eqb (eof_call_refusal t c d) 0) _ _ (eof_clean f t running file _) (running_clean running)

-- the layers of a call
module _ (s : State) (running : Running s.transfer) (out : List ℕ) (timer : Bool) where
  same_over : Over s s
  same_over e = absurd (false≢true (sym running ∙ e))

  refused_over : (i : Inserted) → Clean i.transfer → Over s (refused_of s i).state
  unfolding refused_of
  refused_over i clean = by_cond (λ (c : Called). Over s c.state) (eqb i.answer 19) _ _ (settled-over s i.transfer clean) same_over

  busy-over : (i : Inserted) (store : List ℕ) → Clean i.transfer → Over s (busy_call s i store out timer).called.state
  unfolding busy_call ran_of
  busy-over i store clean = settled-over s _ (busy_clean _ _ i.transfer clean store out timer)

  after-over : (i : Inserted) (store : List ℕ) → Clean i.transfer → Over s (after_insert s i store out timer).called.state
  unfolding after_insert
  after-over i store clean =
      by_cond (λ (o : Outcome). Over s o.called.state) (eqb i.answer 0) _ _ (busy-over i store clean) (refused_over i clean)

  start-over : (c : CommonPduConfig) (d : List ℕ) → Over s (started_call s c d).state
  unfolding started_call start_called begun_of begun start_of started_of
  start-over c d =
      by_cond (λ (x : Called). Over s x.state) (eqb (metadata_refusal s c d) 0) _ _ (λ e. absurd (false≢true e)) same_over

  target_over : (k : Target) (store : List ℕ) (c : CommonPduConfig) (m : Bool) (d : List ℕ) → Over s (target_call k s store out c m d timer).called.state
  unfolding file_data_call eof_call
  target_over Target.FileData store c m d = after-over _ _ (file_data_clean _ s.transfer running c d _ store m)
  target_over Target.Metadata store c m d = start-over c d
  target_over Target.Eof store c m d = after-over _ store (eof_inserted_clean _ s.transfer running c d _ _)

  call_over : (i : Input) (store : List ℕ) → Over s (call_of s store out i timer).called.state
  unfolding call_of poll_call insert_call
  call_over Input.poll store =
      by_cond (λ (o : Outcome). Over s o.called.state) (eqb (unfit_refusal s (length store) (length out)) 0) _ _
      (by_cond (λ (o : Outcome). Over s o.called.state) (busy s) _ _ (busy-over _ store (running_clean running)) same_over)
      same_over
  call_over (Input.packet pdu) store =
      by_cond (λ (o : Outcome). Over s o.called.state) (eqb (entry_refusal s (length store) (length out) pdu) 0) _ _
      (target_over (kind_of (is_file_data pdu) (data_field pdu)) store (conf_of pdu) _ (data_field pdu))
      same_over

-- a call that finds the state busy and leaves it idle leaves a fresh state but for file length and last id
pub ended-fresh : (s : State) (store out : List ℕ) (i : Input) (timer : Bool) → busy s ≡ true → busy (call_of s store out i timer).called.state ≡ false → (call_of s store out i timer).called.state ≡ over_of s (call_of s store out i timer).called.state.transfer.file.length
ended-fresh s store out i timer before after =
    call_over s (not-true (is_idle s.transfer.step) before) out timer i store
    (not-false (is_idle (call_of s store out i timer).called.state.transfer.step) after)
