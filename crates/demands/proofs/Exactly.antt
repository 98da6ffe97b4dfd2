-- Demand 1, exactly when: a call's answer is the number of the first condition of its order that holds, and 0 where none does.
use Prim.Native.Nat.{ℕ}
use mathlib.Core.Path.{◌≡◌, refl, sym, ◌∙◌}
use mathlib.Core.Bool.{Bool, cond}
use mathlib.Core.List.{List, []}
use lib.Dec.{T, eqb}
use lib.ListN.{length}
use borrow.Author.Tests.{eqb-true}
use Rattle.laws.specs.First.{first_of}
use Rattle.laws.proofs.Order.{numbered, numbered-append, first_append}
use Rattle.laws.proofs.Picked.{through}
use Rattle.laws.proofs.Tests.{by_cond, by_test}
use Rattle.codes.specs.Codes.{filestore_rejection}
use Rattle.header.specs.Header.{header_order, conf_of, fields_of, data_field}
use Rattle.header.proofs.Laws.{header_numbered}
use Rattle.header.specs.declared.CommonPduConfig.{CommonPduConfig}
use Rattle.packet_info.specs.Routing.{directive_order, is_file_data, kind_of, packet_order}
use Rattle.packet_info.specs.declared.Target.{Target}
use Rattle.packet_info.specs.declared.Target.TheVariants.{FileData, Metadata, Eof}
use Rattle.transfer.specs.Segment.{Kept, segment_order, segment_refusal, segment_by, segmented_of}
use Rattle.transfer.specs.declared.TransferState.{TransferState}
use Rattle.state.specs.State.{busy}
use Rattle.state.specs.Unfit.{unfit_refusal, unfit_order}
use Rattle.state.specs.declared.State.{State}
use Rattle.inserting.specs.Insert.{Placed, body_order, place_order, body_refusal, file_data_order, segment_offset, segment_bytes, segment_taken, segment_placed, file_data_placed, eof_call_refusal, eof_taken, eof_inserted}
use Rattle.dest.specs.Metadata.{metadata_refusal}
use Rattle.dest.specs.Call.{Input, poll, packet, Outcome, ran_of, busy_call, refused_of, after_insert, file_data_call, eof_call, start_called, started_call, target_call, entry_order, entry_refusal, insert_call, poll_call, call_of}
use Rattle.inserting.specs.Insert.{Inserted}
use Rattle.dest.specs.Call.{Called}
use Rattle.steps.specs.declared.Faults.{Faults}
use Rattle.config.specs.Config.{handler_of}
use Rattle.demands.specs.Order.{kind_order_of, call_order}

-- each refusal that a call begins with has a number
pub entry_numbered : (s : State) (size out : ℕ) (pdu : List ℕ) → T (numbered (entry_order s size out pdu))
unfolding entry_order unfit_order packet_order directive_order
entry_numbered s size out pdu =
    numbered-append (header_order pdu) _ (header_numbered pdu)
    (numbered-append (cond (is_file_data pdu) [] (directive_order (data_field pdu))) _ (by_cond (λ (l : List (ℕ × Bool)). T (numbered l)) (is_file_data pdu) [] (directive_order (data_field pdu)) tt tt) tt)

body_numbered : (t : TransferState) (c : CommonPduConfig) (m : Bool) (d : List ℕ) → T (numbered (body_order t c m d))
unfolding body_order place_order
body_numbered t c m d = tt

-- a segment
segment-answer : (n h : ℕ) (t : TransferState) (store : List ℕ) (o : ℕ) (d : List ℕ) → (segment_by n h t store o d).segmented.answer ≡ n
unfolding segment_by
segment-answer n h t store o d =
    let Tells : Kept → Type 0 = λ k. k.segmented.answer ≡ n in
    by_test Tells (eqb n 0) _ _ (λ e. sym (eqb-true n 0 e)) (λ f. by_test Tells (eqb n 19) _ _ (λ e. sym (eqb-true n 19 e)) (λ e. refl))

-- file data and EOF
pub data_answer : (h : ℕ) (notify : Bool) (t : TransferState) (store : List ℕ) (c : CommonPduConfig) (m : Bool) (d : List ℕ) → (file_data_placed h notify t store c m d).inserted.answer ≡ first_of (file_data_order t c m d (length store))
unfolding file_data_placed segment_placed segment_taken segmented_of file_data_order body_refusal segment_refusal
data_answer h notify t store c m d =
    let o = segment_offset c m d in
    let bytes = segment_bytes c m d in
    rw
    (through (λ (p : Placed). p.inserted.answer) (eqb (body_refusal t c m d) 0), segment-answer (segment_refusal t (length store) o (length bytes)) h t store o bytes, first_append (body_order t c m d) (segment_order t (length store) o (length bytes)) (body_numbered t c m d))

eof-answer : (f : Faults) (notify : Bool) (t : TransferState) (file : List ℕ) (c : CommonPduConfig) (d : List ℕ) → (eof_inserted f notify t file c d).answer ≡ eof_call_refusal t c d
unfolding eof_inserted eof_taken
eof-answer f notify t file c d =
    by_test (λ (i : Inserted). i.answer ≡ eof_call_refusal t c d) (eqb (eof_call_refusal t c d) 0) _ _ (λ e. sym (eqb-true (eof_call_refusal t c d) 0 e)) (λ e. refl)

-- behind an insertion
module _ (s : State) (out : List ℕ) (timer : Bool) where
  refused-answer : (i : Inserted) → (refused_of s i).answer ≡ i.answer
  unfolding refused_of
  refused-answer i = by_test (λ (c : Called). c.answer ≡ i.answer) (eqb i.answer 19) _ _ (λ e. sym (eqb-true i.answer 19 e)) (λ e. refl)

  pub after-answer : (i : Inserted) (store : List ℕ) → (after_insert s i store out timer).called.answer ≡ i.answer
  unfolding after_insert busy_call ran_of
  after-answer i store =
      by_test (λ (o : Outcome). o.called.answer ≡ i.answer) (eqb i.answer 0) _ _ (λ e. sym (eqb-true i.answer 0 e)) (λ e. refused-answer i)

  start-answer : (c : CommonPduConfig) (d : List ℕ) → (started_call s c d).answer ≡ metadata_refusal s c d
  unfolding started_call start_called
  start-answer c d =
      by_test (λ (x : Called). x.answer ≡ metadata_refusal s c d) (eqb (metadata_refusal s c d) 0) _ _ (λ e. sym (eqb-true (metadata_refusal s c d) 0 e)) (λ e. refl)

  target_answer : (k : Target) (store : List ℕ) (c : CommonPduConfig) (m : Bool) (d : List ℕ) → (target_call k s store out c m d timer).called.answer ≡ first_of (kind_order_of k s (length store) c m d)
  unfolding file_data_call eof_call metadata_refusal eof_call_refusal
  target_answer FileData store c m d = after-answer _ _ ∙ data_answer (handler_of s.config.handlers filestore_rejection) s.config.segmentrecv s.transfer store c m d
  target_answer Metadata store c m d = start-answer c d
  target_answer Eof store c m d = after-answer _ store ∙ eof-answer _ s.config.eofrecv s.transfer _ c d

  -- every call: its answer is told by the first condition of its order that holds
  pub exactly : (store : List ℕ) (i : Input) → (call_of s store out i timer).called.answer ≡ first_of (call_order s (length store) (length out) i)
  unfolding call_of poll_call insert_call call_order unfit_refusal busy_call ran_of entry_refusal
  exactly store poll =
      let n = unfit_refusal s (length store) (length out) in
      by_test (λ (o : Outcome). o.called.answer ≡ n) (eqb n 0) _ _
      (λ e. by_cond (λ (o : Outcome). o.called.answer ≡ n) (busy s) _ _ (sym (eqb-true n 0 e)) (sym (eqb-true n 0 e)))
      (λ e. refl)
  exactly store (packet pdu) =
      let n = entry_refusal s (length store) (length out) pdu in
      rw
      (through (λ (o : Outcome). o.called.answer) (eqb n 0), target_answer (kind_of (is_file_data pdu) (data_field pdu)) store (conf_of pdu) (fields_of pdu).segmentmetadata (data_field pdu), first_append (entry_order s (length store) (length out) pdu) _ (entry_numbered s (length store) (length out) pdu))
