-- No text cuts a PDU: what a call sends has at most 40 bytes.
use Prim.Native.Nat.{ℕ, ◌≤◌}
use mathlib.Core.Path.{◌≡◌}
use mathlib.Core.Bool.{Bool}
use mathlib.Core.List.{List}
use lib.Dec.{ltb, eqb}
use lib.ListN.{length, take, length-take}
use lib.Seq.{take_all}
use native.Mathlib.Omega.{arith}
use Rattle.laws.proofs.Tests.{by_cond}
use Rattle.header.specs.Header.{conf_of, data_field}
use Rattle.header.specs.declared.CommonPduConfig.{CommonPduConfig}
use Rattle.packet_info.specs.Routing.{is_file_data, kind_of}
use Rattle.packet_info.specs.declared.Target.{Target}
use Rattle.finished.specs.Finished.{out_size, finished_of, Sent}
use Rattle.finished.specs.declared.EntityId.{EntityId}
use Rattle.finished.specs.declared.FinishedPdu.{FinishedPdu}
use Rattle.finished.proofs.Lengths.{finished_at_most}
use Rattle.steps.specs.Completion.{Ended, completion_of, finish_of, sent_bytes}
use Rattle.steps.specs.Busy.{Left, waited_of, ended_of, busy_of}
use Rattle.transfer.specs.Transfer.{is_completion}
use Rattle.transfer.specs.declared.TransferState.{TransferState}
use Rattle.steps.specs.declared.Faults.{Faults}
use Rattle.steps.specs.declared.Remote.{Remote}
use Rattle.state.specs.State.{busy}
use Rattle.state.specs.Unfit.{unfit_refusal}
use Rattle.state.specs.declared.State.{State}
use Rattle.dest.specs.Call.{Input, Outcome, outcome, faults_of, remote_of, ran_of, busy_call, refused_of, after_insert, file_data_call, eof_call, start_called, started_call, target_call, entry_refusal, insert_call, poll_call, call_of}
use Rattle.dest.specs.Metadata.{metadata_refusal}
use Rattle.inserting.specs.Insert.{Inserted}
use Rattle.dest.specs.Call.{Called}
use Rattle.text.specs.Text.{pdu_size}

abbrev Fits : ℕ → Type 0
Fits n = n ≤ out_size

-- a Finished PDU, and completion
finished-fits : (out : List ℕ) (conf : CommonPduConfig) (f : FinishedPdu) (local : EntityId) → Fits (sent_bytes (finished_of out conf f local).answer)
unfolding finished_of
finished-fits out conf f local =
    by_cond (λ (x : Sent). Fits (sent_bytes x.answer)) (ltb (length out) out_size) _ _ (omega arith) (finished_at_most conf f local)

completion-fits : (local : EntityId) (discard : Bool) (t : TransferState) (out : List ℕ) → Fits (completion_of local discard t out).completed.sent
unfolding completion_of
completion-fits local discard t out =
    by_cond (λ (x : Ended). Fits x.completed.sent) t.closure _ _ (finished-fits out t.conf (finish_of t discard) local) (omega arith)

-- the busy steps
busy-fits : (f : Faults) (r : Remote) (t : TransferState) (store out : List ℕ) (timer : Bool) → Fits (busy_of f r t store out timer).busy.sent
unfolding busy_of ended_of
busy-fits f r t store out timer =
    let d = waited_of f r t store timer in
    by_cond (λ (x : Left). Fits x.busy.sent) (is_completion d.state.step) _ _ (completion-fits r.local r.discard d.state out) (omega arith)

-- a call
abbrev Sends : Outcome → Type 0
Sends o = Fits o.called.sent

module _ (s : State) (out : List ℕ) (timer : Bool) where
  run_sends : (i : Inserted) (store : List ℕ) → Sends (busy_call s i store out timer)
  unfolding busy_call ran_of
  run_sends i store = busy-fits (faults_of s.config.handlers) (remote_of s.config s.transfer.conf.source) i.transfer store out timer

  refused-sends : (i : Inserted) (store : List ℕ) → Sends (outcome (refused_of s i) store out)
  unfolding refused_of
  refused-sends i store = by_cond (λ (c : Called). Fits c.sent) (eqb i.answer 19) _ _ (omega arith) (omega arith)

  after-sends : (i : Inserted) (store : List ℕ) → Sends (after_insert s i store out timer)
  unfolding after_insert
  after-sends i store = by_cond Sends (eqb i.answer 0) _ _ (run_sends i store) (refused-sends i store)

  start-sends : (store : List ℕ) (c : CommonPduConfig) (d : List ℕ) → Sends (outcome (started_call s c d) store out)
  unfolding started_call start_called
  start-sends store c d = by_cond (λ (x : Called). Fits x.sent) (eqb (metadata_refusal s c d) 0) _ _ (omega arith) (omega arith)

  target_sends : (k : Target) (store : List ℕ) (c : CommonPduConfig) (m : Bool) (d : List ℕ) → Sends (target_call k s store out c m d timer)
  unfolding file_data_call eof_call
  target_sends Target.FileData store c m d = after-sends _ _
  target_sends Target.Metadata store c m d = start-sends store c d
  target_sends Target.Eof store c m d = after-sends _ store

  pub call_sends : (store : List ℕ) (i : Input) → Sends (call_of s store out i timer)
  unfolding call_of poll_call insert_call
  call_sends store Input.poll =
      by_cond Sends (eqb (unfit_refusal s (length store) (length out)) 0) _ _
      (by_cond Sends (busy s) _ _ (run_sends _ store) (omega arith))
      (omega arith)
  call_sends store (Input.packet pdu) =
      by_cond Sends (eqb (entry_refusal s (length store) (length out) pdu) 0) _ _
      (target_sends (kind_of (is_file_data pdu) (data_field pdu)) store (conf_of pdu) _ (data_field pdu))
      (omega arith)

-- so the whole PDU is shown
pub whole-pdu : (s : State) (store out : List ℕ) (i : Input) (timer : Bool) → (let o = call_of s store out i timer in take pdu_size (take o.called.sent o.out) ≡ take o.called.sent o.out)
whole-pdu s store out i timer =
    let o = call_of s store out i timer in
    take_all pdu_size (take o.called.sent o.out) (omega (arith, call_sends s out timer store i, length-take o.called.sent o.out))
