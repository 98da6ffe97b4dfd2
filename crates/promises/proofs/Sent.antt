-- What a call sends: only completion sends, of a transfer that goes on with its header and a condition of four bits; any other step leaves the
-- out buffer.
use Prim.Native.Nat.{ℕ, ◌≤◌}
use mathlib.Core.Path.{◌≡◌, refl}
use mathlib.Core.Bool.{Bool, true, false≢true}
use mathlib.Core.List.{List}
use lib.Dec.{eqb, ltb}
use lib.ListN.{length}
use borrow.Author.Tests.{eqb-true}
use Rattle.std.specs.Prelude.{Option, Some, None}
use Rattle.laws.proofs.Order.{clear}
use Rattle.laws.proofs.Tests.{by_cond, by_test, both_true}
use Rattle.codes.specs.Codes.{is_code}
use Rattle.header.specs.Header.{conf_of, fields_of, data_field}
use Rattle.header.specs.declared.CommonPduConfig.{CommonPduConfig}
use Rattle.packet_info.specs.Routing.{is_file_data, kind_of}
use Rattle.packet_info.specs.declared.Target.{Target}
use Rattle.finished.specs.Finished.{out_size, Sent, finished_of}
use Rattle.finished.specs.declared.EntityId.{EntityId}
use Rattle.filestore.specs.File.{store_limit}
use Rattle.config.specs.Config.{entries_of, find_in}
use Rattle.config.specs.declared.RemoteEntityConfig.{RemoteEntityConfig}
use Rattle.transfer.specs.Transfer.{is_idle, is_completion}
use Rattle.transfer.specs.declared.TransactionStep.{TransactionStep}
use Rattle.transfer.specs.declared.TransactionStep.TheVariants.{Idle, Receiving, Waiting, Completion}
use Rattle.transfer.specs.declared.TransferState.{TransferState}
use Rattle.steps.specs.Completion.{Ended, sent_bytes, finish_of, finished_note, completion_of}
use Rattle.steps.specs.Busy.{Left, waited_of, ended_of, busy_of}
use Rattle.steps.specs.declared.Faults.{Faults}
use Rattle.state.specs.State.{busy}
use Rattle.state.specs.Unfit.{unfit_order, unfit_refusal}
use Rattle.state.specs.declared.State.{State}
use Rattle.dest.specs.Call.{Input, poll, packet, Outcome, outcome, faults_of, remote_by, remote_of, ran_of, busy_call, refused_of, after_insert, file_data_call, eof_call, start_called, started_call, target_call, entry_refusal, insert_call, poll_call, call_of}
use Rattle.dest.specs.Metadata.{metadata_refusal}
use Rattle.inserting.specs.Insert.{Inserted}
use Rattle.dest.specs.Call.{Called}
use Rattle.dest.proofs.Laws.{entry_fit}
use Rattle.promises.specs.Sent.{Sends, nothing, finished}
use Rattle.promises.proofs.Held.{On, Held, on, over, remote_for, waited_held}
use Rattle.promises.proofs.Sound.{Sound, parts, own_held, data_held, eof-inserted, unfit-room}

-- an idle step is not completion
idle_ends : (x : TransactionStep) → is_idle x ≡ true → is_completion x ≡ true → ⊥
idle_ends Idle p q = false≢true q
idle_ends Receiving p q = false≢true p
idle_ends Waiting p q = false≢true p
idle_ends Completion p q = false≢true p

-- the local entity is the configured one
local_by : (local : EntityId) (r : Option RemoteEntityConfig) → (remote_by local r).local ≡ local
local_by local (Some e) = refl
local_by local None = refl

module _ (s : State) (out : List ℕ) where
  local_same : (remote_for s).local ≡ s.config.local
  unfolding remote_of
  local_same = local_by s.config.local (find_in (entries_of s.config.table s.config.entries) s.transfer.conf.source)

  -- completion
  abbrev OfEnded : Ended → Type 0
  OfEnded e = Sends s out e.completed.sent e.completed.finished e.out

  completion-sends : (discard : Bool) (t : TransferState) → On s t → OfEnded (completion_of s.config.local discard t out)
  unfolding completion_of finished_of finished_note finish_of
  completion-sends discard t p =
      by_cond OfEnded t.closure _ _
      (by_cond (λ (w : Sent). Sends s out (sent_bytes w.answer) (finished_note t discard) w.out) (ltb (length out) out_size) _ _
      (nothing refl refl)
      (finished (finish_of t discard) (rw p.same) (both_true (is_code t.checksumtype) _ p.codes).1 (rw p.same) (rw p.same)))
      (nothing refl refl)

  ended-sends : (t : TransferState) → is_completion t.step ≡ true → Held s t → OfEnded (completion_of (remote_for s).local (remote_for s).discard t out)
  ended-sends t e (on p) = rw local_same (completion-sends (remote_for s).discard t p)
  ended-sends t e (over p) = absurd (idle_ends t.step p.idle e)

  -- the busy steps
  abbrev OfLeft : Left → Type 0
  OfLeft l = Sends s out l.busy.sent l.busy.finished l.out

  busy-sends : (f : Faults) (t : TransferState) (store : List ℕ) (timer : Bool) → Held s t → OfLeft (busy_of f (remote_for s) t store out timer)
  unfolding busy_of ended_of
  busy-sends f t store timer h =
      let d = waited_of f (remote_for s) t store timer in
      by_test OfLeft (is_completion d.state.step) _ _ (λ e. ended-sends d.state e (waited_held s f t store timer h)) (λ e. nothing refl refl)

  -- a call, by what was inserted
  abbrev OfOutcome : Outcome → Type 0
  OfOutcome o = Sends s out o.called.sent o.called.notes.fifth o.out

  run_sends : (i : Inserted) (store : List ℕ) (timer : Bool) → Held s i.transfer → OfOutcome (busy_call s i store out timer)
  unfolding busy_call ran_of
  run_sends i store timer h = busy-sends (faults_of s.config.handlers) i.transfer store timer h

  refused-sends : (i : Inserted) (store : List ℕ) → OfOutcome (outcome (refused_of s i) store out)
  unfolding refused_of
  refused-sends i store =
      by_cond (λ (c : Called). OfOutcome (outcome c store out)) (eqb i.answer 19) _ _ (nothing refl refl) (nothing refl refl)

  after-sends : (i : Inserted) (store : List ℕ) (timer : Bool) → Held s i.transfer → OfOutcome (after_insert s i store out timer)
  unfolding after_insert
  after-sends i store timer h = by_cond OfOutcome (eqb i.answer 0) _ _ (run_sends i store timer h) (refused-sends i store)

  start-sends : (c : CommonPduConfig) (d store : List ℕ) → OfOutcome (outcome (started_call s c d) store out)
  unfolding started_call start_called
  start-sends c d store =
      by_cond (λ (x : Called). OfOutcome (outcome x store out)) (eqb (metadata_refusal s c d) 0) _ _ (nothing refl refl) (nothing refl refl)

  -- by the PDU's kind, on a state that 21 does not meet, with a store within its limit
  target_sends : (k : Target) (store : List ℕ) (c : CommonPduConfig) (m : Bool) (d : List ℕ) (timer : Bool) → Sound s → length store ≤ store_limit → OfOutcome (target_call k s store out c m d timer)
  unfolding file_data_call eof_call
  target_sends Target.FileData store c m d timer sound room = after-sends _ _ timer (data_held s sound c d store room _ _ m)
  target_sends Target.Metadata store c m d timer sound room = start-sends c d store
  target_sends Target.Eof store c m d timer sound room = after-sends _ store timer (eof-inserted s sound c d _ _)

  -- a state that 21 passes is sound
  passes : (size : ℕ) → unfit_refusal s size (length out) ≡ 0 → Sound s
  unfolding unfit_refusal unfit_order
  passes size e = parts s (clear (unfit_order s size (length out)) tt e).0

  pub sends : (store : List ℕ) (i : Input) (timer : Bool) → OfOutcome (call_of s store out i timer)
  unfolding call_of poll_call insert_call
  sends store poll timer =
      by_test OfOutcome (eqb (unfit_refusal s (length store) (length out)) 0) _ _
      (λ e. by_cond OfOutcome (busy s) _ _ (run_sends _ store timer (own_held s (passes (length store) (eqb-true _ 0 e)))) (nothing refl refl))
      (λ e. nothing refl refl)
  sends store (packet pdu) timer =
      by_test OfOutcome (eqb (entry_refusal s (length store) (length out) pdu) 0) _ _
      (λ e.
      let fit = entry_fit s (length store) (length out) pdu (eqb-true _ 0 e) in
      target_sends (kind_of (is_file_data pdu) (data_field pdu)) store (conf_of pdu) (fields_of pdu).segmentmetadata (data_field pdu) timer (passes (length store) fit) (unfit-room s (length store) (length out) fit))
      (λ e. nothing refl refl)
