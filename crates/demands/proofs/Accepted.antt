-- What an accepted call is to a transfer that waits: a poll or a segment, and behind it the busy steps, whatever the timer flag.
use Rattle.std.specs.Prelude.{None}
use Rattle.transfer.specs.Transfer.{Note}
use Prim.Native.Nat.{ℕ}
use mathlib.Core.Path.{◌≡◌, refl, sym, ap, ◌∙◌}
use mathlib.Core.Bool.{Bool, true, false}
use mathlib.Core.List.{List}
use native.Mathlib.Omega.{arith}
use lib.Dec.{eqb}
use lib.ListN.{length}
use borrow.Author.Tests.{eqb-true, eq-eqb}
use Rattle.laws.specs.First.{first_of}
use Rattle.laws.proofs.Order.{first_append, first_clear, first_right}
use Rattle.laws.proofs.Tests.{by_cond, by_test}
use Rattle.codes.specs.Codes.{filestore_rejection}
use Rattle.header.specs.Header.{conf_of, fields_of, data_field}
use Rattle.packet_info.specs.Routing.{is_file_data, kind_of}
use Rattle.packet_info.specs.declared.Target.{Target}
use Rattle.packet_info.specs.declared.Target.TheVariants.{FileData, Metadata, Eof}
use Rattle.config.specs.Config.{handler_of}
use Rattle.transfer.specs.Transfer.{with_file}
use Rattle.transfer.specs.declared.FileState.{FileState}
use Rattle.transfer.specs.declared.TransactionStep.TheVariants.{Waiting}
use Rattle.transfer.specs.declared.TransferState.{TransferState}
use Rattle.state.specs.State.{busy}
use Rattle.state.specs.Unfit.{unfit_refusal}
use Rattle.state.specs.declared.State.{State}
use Rattle.inserting.specs.Insert.{Placed, inserted, place_order, eof_call_order, segment_note}
use Rattle.dest.specs.Metadata.{metadata_order}
use Rattle.dest.specs.Call.{Input, poll, packet, busy_call, after_insert, entry_order, entry_refusal, insert_call, poll_call, call_of}
use Rattle.inserting.specs.FileData.{Took, taken_of, segment_inserted}
use Rattle.dest.specs.FileData.{data_call}
use Rattle.inserting.specs.Insert.{Inserted}
use Rattle.inserting.specs.FileData.{Taken}
use Rattle.inserting.proofs.FileData.{data_same}
use Rattle.dest.proofs.FileData.{data_call_lem}
use Rattle.demands.specs.Order.{kind_order_of, call_order}
use Rattle.demands.specs.Seen.{is_end}
use Rattle.demands.proofs.Exactly.{data_answer, entry_numbered, exactly}

-- the file's numbers and the store behind the segment, the segment's indication, and the call
pub record Accepted (s : State) (store out : List ℕ) (i : Input) : Type 0 where
  pub file : FileState
  pub note : Note
  pub quiet : is_end note ≡ false
  pub left : List ℕ
  pub same : (timer : Bool) → call_of s store out i timer ≡ busy_call s (inserted 0 (with_file s.transfer file) note None None) left out timer

-- what file data leave has the answer that they were given
carried-answer : (h : ℕ) (notify : Bool) (t : TransferState) (k : Taken) → (segment_inserted h notify t k).answer ≡ k.answer
unfolding segment_inserted
carried-answer h notify t k =
    let Tells : Inserted → Type 0 = λ i. i.answer ≡ k.answer in
    by_test Tells (eqb k.answer 0) _ _ (λ e. sym (eqb-true k.answer 0 e)) (λ f. by_test Tells (eqb k.answer 19) _ _ (λ e. sym (eqb-true k.answer 19 e)) (λ e. refl))

-- an accepted PDU: nothing is told before it is handled, and nothing by its kind
pub entered : (s : State) (store out pdu : List ℕ) (timer : Bool) → (call_of s store out (packet pdu) timer).called.answer ≡ 0 → (entry_refusal s (length store) (length out) pdu ≡ 0) × (first_of (kind_order_of (kind_of (is_file_data pdu) (data_field pdu)) s (length store) (conf_of pdu) (fields_of pdu).segmentmetadata (data_field pdu)) ≡ 0)
unfolding call_order entry_refusal
entered s store out pdu timer e =
    let entry = entry_order s (length store) (length out) pdu in
    let numbers = entry_numbered s (length store) (length out) pdu in
    let all = sym (exactly s out timer store (packet pdu)) ∙ e in
    let none = first_clear (first_of entry) _ (sym (first_append entry _ numbers) ∙ all) in
    (none, sym (first_right entry _ numbers none) ∙ all)

-- file data that are taken, in any step
module _ (s : State) (store out pdu : List ℕ) where
  -- what they leave of the file, and their indication
  abbrev pub took_data : Took
  took_data = taken_of s.transfer store (conf_of pdu) (fields_of pdu).segmentmetadata (data_field pdu)

  abbrev pub data_note : Note
  data_note = segment_note s.config.segmentrecv s.transfer took_data.left.offset took_data.left.count

  module _ (none : entry_refusal s (length store) (length out) pdu ≡ 0) (kind : kind_of (is_file_data pdu) (data_field pdu) ≡ FileData) (clear : first_of (kind_order_of FileData s (length store) (conf_of pdu) (fields_of pdu).segmentmetadata (data_field pdu)) ≡ 0) where
    pub data_calls : (timer : Bool) → call_of s store out (packet pdu) timer ≡ busy_call s (inserted 0 (with_file s.transfer took_data.left.file) data_note None None) took_data.store out timer
    unfolding call_of insert_call data_call after_insert segment_inserted
    data_calls timer =
        let c = conf_of pdu in
        let m = (fields_of pdu).segmentmetadata in
        let d = data_field pdu in
        let h = handler_of s.config.handlers filestore_rejection in
        let notify = s.config.segmentrecv in
        let zero : took_data.left.answer ≡ 0 = sym (carried-answer h notify s.transfer took_data.left) ∙ ap (λ (p : Placed). p.inserted.answer) (sym (data_same h notify s.transfer store c m d)) ∙ data_answer h notify s.transfer store c m d ∙ clear in
        rw (eq-eqb (entry_refusal s (length store) (length out) pdu) 0 none, kind, data_call_lem s store out c m d timer, eq-eqb took_data.left.answer 0 zero)

    data_accepted : Accepted s store out (packet pdu)
    data_accepted =
        record {
          file = took_data.left.file;
          note = data_note;
          quiet = by_cond (λ (i : Note). is_end i ≡ false) s.config.segmentrecv _ _ refl refl;
          left = took_data.store;
          same = data_calls;
        }

module _ (s : State) (store out : List ℕ) (waits : s.transfer.step ≡ Waiting) where
  -- it is busy, and does not receive
  runs : busy s ≡ true
  runs = rw waits

  -- a poll
  poll_accepted : unfit_refusal s (length store) (length out) ≡ 0 → Accepted s store out poll
  unfolding call_of poll_call
  poll_accepted e =
      record {
        file = s.transfer.file;
        note = None;
        quiet = refl;
        left = store;
        same = λ timer. rw (eq-eqb (unfit_refusal s (length store) (length out)) 0 e, runs);
      }

  -- a PDU: only file data are taken
  module _ (pdu : List ℕ) where
    by_kind : (k : Target) → entry_refusal s (length store) (length out) pdu ≡ 0 → kind_of (is_file_data pdu) (data_field pdu) ≡ k → first_of (kind_order_of k s (length store) (conf_of pdu) (fields_of pdu).segmentmetadata (data_field pdu)) ≡ 0 → Accepted s store out (packet pdu)
    unfolding metadata_order eof_call_order place_order
    by_kind FileData none kind clear = data_accepted s store out pdu none kind clear
    by_kind Metadata none kind clear = absurd (omega (arith, rw runs at clear))
    by_kind Eof none kind clear = absurd (omega (arith, rw waits at clear))

  pub accepted : (i : Input) (timer : Bool) → (call_of s store out i timer).called.answer ≡ 0 → Accepted s store out i
  unfolding call_order unfit_refusal entry_refusal
  accepted poll timer e = poll_accepted (sym (exactly s out timer store poll) ∙ e)
  accepted (packet pdu) timer e =
      let clear = entered s store out pdu timer e in by_kind pdu (kind_of (is_file_data pdu) (data_field pdu)) clear.0 refl clear.1
