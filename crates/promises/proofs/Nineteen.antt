-- Only a segment that does not fit answers 19: no other refusal has that number, and each layer of the call hands on what the segment
-- leaves.
use Rattle.std.specs.Prelude.{None}
use Prim.Native.Nat.{ℕ}
use mathlib.Core.Path.{◌≡◌, refl}
use mathlib.Core.Bool.{Bool, true, false, cond}
use mathlib.Core.List.{List, []}
use native.Mathlib.Omega.{arith}
use lib.Dec.{eqb}
use lib.ListN.{length}
use borrow.Author.Tests.{eqb-true, eqb-false, not-false}
use Rattle.laws.proofs.Tests.{by_cond, by_test}
use Rattle.laws.proofs.Order.{clear}
use Rattle.codes.specs.Codes.{filestore_rejection}
use Rattle.header.specs.Header.{conf_of, fields_of, data_field, header_order}
use Rattle.header.specs.declared.CommonPduConfig.{CommonPduConfig}
use Rattle.packet_info.specs.Routing.{is_file_data, kind_of, directive, directive_order, packet_order}
use Rattle.packet_info.specs.declared.Target.{Target}
use Rattle.bodies.specs.Eof.{eof_order}
use Rattle.config.specs.Config.{handler_of}
use Rattle.transfer.specs.Fault.{handled, reported}
use Rattle.transfer.specs.Segment.{Kept, kept, segmented, segment_by, segmented_of}
use Rattle.steps.specs.declared.Faults.{Faults}
use Rattle.transfer.specs.declared.TransferState.{TransferState}
use Rattle.state.specs.State.{busy, settled}
use Rattle.state.specs.Unfit.{unfit_order, unfit_refusal}
use Rattle.state.specs.declared.State.{State}
use Rattle.inserting.specs.Insert.{Placed, placed, inserted, takes_data, place_order, body_order, body_refusal, eof_call_order, eof_call_refusal, segment_offset, segment_bytes, segment_note, segment_placed, segment_taken, file_data_placed, eof_inserted, eof_taken}
use Rattle.inserting.specs.Metadata.{names_order, rest_order}
use Rattle.dest.specs.Metadata.{metadata_order, metadata_refusal}
use Rattle.dest.specs.Call.{Input, Outcome, outcome, called, notes, ran_of, busy_call, refused_of, after_insert, file_data_call, eof_call, start_called, started_call, target_call, entry_order, entry_refusal, insert_call, poll_call, call_of}
use Rattle.inserting.specs.Insert.{Inserted}
use Rattle.dest.specs.Call.{Called}
use Rattle.promises.specs.Nineteen.{unfit_outcome, unfit_call}
use Rattle.promises.proofs.Cases.{without, without-append, never}

-- no refusal before or beside a segment's is 19
entry_never : (s : State) (size out : ℕ) (pdu : List ℕ) → entry_refusal s size out pdu ≡ 19 → ⊥
unfolding entry_refusal entry_order unfit_order packet_order header_order directive_order
entry_never s size out pdu =
    never 19 (entry_order s size out pdu)
    (without-append 19 (cond (is_file_data pdu) [] (directive_order (data_field pdu))) _
    (by_cond (λ l. without 19 l ≡ true) (is_file_data pdu) [] (directive_order (data_field pdu)) refl refl)
    refl)
    (λ e. omega arith)

unfit-never : (s : State) (size out : ℕ) → unfit_refusal s size out ≡ 19 → ⊥
unfolding unfit_refusal unfit_order
unfit-never s size out = never 19 (unfit_order s size out) refl (λ e. omega arith)

body_never : (t : TransferState) (c : CommonPduConfig) (m : Bool) (d : List ℕ) → body_refusal t c m d ≡ 19 → ⊥
unfolding body_refusal body_order place_order
body_never t c m d = never 19 (body_order t c m d) refl (λ e. omega arith)

eof-never : (t : TransferState) (c : CommonPduConfig) (d : List ℕ) → eof_call_refusal t c d ≡ 19 → ⊥
unfolding eof_call_refusal eof_call_order place_order eof_order
eof-never t c d = never 19 (eof_call_order t c d) refl (λ e. omega arith)

metadata-never : (s : State) (c : CommonPduConfig) (d : List ℕ) → metadata_refusal s c d ≡ 19 → ⊥
unfolding metadata_refusal metadata_order rest_order names_order
metadata-never s c d = never 19 (metadata_order s c d) refl (λ e. omega arith)

-- what a segment of n bytes at o leaves that does not fit: by itself, and as file data
abbrev unfit_segment : ℕ → TransferState → List ℕ → Kept
unfit_segment h t store = kept (segmented 19 (handled h t filestore_rejection) (reported h t filestore_rejection)) store

abbrev unfit_placed : ℕ → Bool → TransferState → List ℕ → ℕ → ℕ → Placed
unfit_placed h notify t store o n = placed (inserted 19 (handled h t filestore_rejection) (segment_note notify t o n) (reported h t filestore_rejection) None) store

-- a segment
abbrev SegmentTells : ℕ → TransferState → List ℕ → Kept → Type 0
SegmentTells h t store k = k.segmented.answer ≡ 19 → k ≡ unfit_segment h t store

module _ (h : ℕ) (t : TransferState) (store : List ℕ) where
  segment-tells : (n o : ℕ) (d : List ℕ) → SegmentTells h t store (segment_by n h t store o d)
  unfolding segment_by
  segment-tells n o d =
      by_cond (SegmentTells h t store) (eqb n 0) _ _ (λ e. absurd (omega arith))
      (by_test (SegmentTells h t store) (eqb n 19) _ _ (λ p e. refl) (λ p e. absurd (eqb-false n 19 p e)))

  -- file data: the step takes them
  module _ (notify : Bool) (c : CommonPduConfig) (m : Bool) (d : List ℕ) where
    body_takes : body_refusal t c m d ≡ 0 → takes_data t.step ≡ true
    unfolding body_refusal body_order place_order
    body_takes e = not-false (takes_data t.step) (clear (body_order t c m d) tt e).0

    abbrev PlacedTells : Placed → Type 0
    PlacedTells p =
        p.inserted.answer ≡ 19
        → (takes_data t.step ≡ true) × (p ≡ unfit_placed h notify t store (segment_offset c m d) (length (segment_bytes c m d)))

    placed_by : (k : Kept) → SegmentTells h t store k → body_refusal t c m d ≡ 0 → PlacedTells (segment_placed notify t (segment_offset c m d) (length (segment_bytes c m d)) k)
    unfolding segment_placed segment_taken
    placed_by k tells z e = (body_takes z, rw (tells e))

    file_data_tells : PlacedTells (file_data_placed h notify t store c m d)
    unfolding file_data_placed segmented_of
    file_data_tells =
        by_test PlacedTells (eqb (body_refusal t c m d) 0) _ _
        (λ p. placed_by _ (segment-tells _ (segment_offset c m d) (segment_bytes c m d)) (eqb-true _ 0 p))
        (λ p e. absurd (body_never t c m d e))

-- behind an insertion
module _ (s : State) (store out : List ℕ) (timer : Bool) where
  abbrev refused_outcome : Inserted → List ℕ → Outcome
  refused_outcome i left =
      outcome
      (called 19 (settled s i.transfer) 0 (notes i.first i.second None None None))
      left
      out

  abbrev AfterTells : Inserted → List ℕ → Outcome → Type 0
  AfterTells i left o = o.called.answer ≡ 19 → (i.answer ≡ 19) × (o ≡ refused_outcome i left)

  refused-tells : (i : Inserted) (left : List ℕ) → AfterTells i left (outcome (refused_of s i) left out)
  unfolding refused_of
  refused-tells i left =
      by_test (λ c. AfterTells i left (outcome c left out)) (eqb i.answer 19) _ _ (λ p e. (eqb-true _ 19 p, refl))
      (λ p e. absurd (eqb-false _ 19 p e))

  after-tells : (i : Inserted) (left : List ℕ) → AfterTells i left (after_insert s i left out timer)
  unfolding after_insert busy_call ran_of
  after-tells i left =
      by_cond (AfterTells i left) (eqb i.answer 0) _ _ (λ e. absurd (omega arith)) (refused-tells i left)

  -- file data with the header's conf c and segment metadata flag m and the data field d whose segment does not fit
  abbrev Unfit : CommonPduConfig → Bool → List ℕ → Outcome → Type 0
  Unfit c m d o =
      (takes_data s.transfer.step ≡ true) × (o ≡ unfit_outcome s store out (segment_offset c m d) (length (segment_bytes c m d)))

  -- what an answer of 19 tells, by whether the PDU is file data
  abbrev Tells : Bool → CommonPduConfig → Bool → List ℕ → Outcome → Type 0
  Tells b c m d o = o.called.answer ≡ 19 → (b ≡ true) × Unfit c m d o

  abbrev PduTells : List ℕ → Outcome → Type 0
  PduTells pdu = Tells (is_file_data pdu) (conf_of pdu) (fields_of pdu).segmentmetadata (data_field pdu)

  module _ (c : CommonPduConfig) (m : Bool) (d : List ℕ) where
    placed_call : (p : Placed) → PlacedTells (handler_of s.config.handlers filestore_rejection) s.transfer store s.config.segmentrecv c m d p → Tells true c m d (after_insert s p.inserted p.store out timer)
    placed_call p tells e =
        let after = after-tells p.inserted p.store e in
        let file = tells after.0 in
        (refl, (file.0, rw (after.1, file.1)))

    file_data_call_lem : Tells true c m d (file_data_call s store out c m d timer)
    unfolding file_data_call
    file_data_call_lem = placed_call _ (file_data_tells (handler_of s.config.handlers filestore_rejection) s.transfer store s.config.segmentrecv c m d)

    eof-inserted : (f : Faults) (notify : Bool) (t : TransferState) (file : List ℕ) → (eof_inserted f notify t file c d).answer ≡ 19 → ⊥
    unfolding eof_inserted eof_taken
    eof-inserted f notify t file =
        by_cond (λ (i : Inserted). i.answer ≡ 19 → ⊥) (eqb (eof_call_refusal t c d) 0) _ _ (λ e. omega arith) (eof-never t c d)

    eof_call_lem : (eof_call s store out c d timer).called.answer ≡ 19 → ⊥
    unfolding eof_call
    eof_call_lem e = eof-inserted _ _ s.transfer _ (after-tells _ store e).0

    start_call : (started_call s c d).answer ≡ 19 → ⊥
    unfolding started_call start_called
    start_call = by_cond (λ (x : Called). x.answer ≡ 19 → ⊥) (eqb (metadata_refusal s c d) 0) _ _ (λ e. omega arith) (metadata-never s c d)

    other_target : (b : Bool) → (target_call (cond b Target.Metadata Target.Eof) s store out c m d timer).called.answer ≡ 19 → ⊥
    other_target true = start_call
    other_target false = eof_call_lem

    target_tells : (b : Bool) → Tells b c m d (target_call (kind_of b d) s store out c m d timer)
    target_tells true e = file_data_call_lem e
    target_tells false e = absurd (other_target (eqb (directive d) 7) e)

  -- the call
  insert_tells : (pdu : List ℕ) → PduTells pdu (insert_call s store out pdu timer)
  unfolding insert_call
  insert_tells pdu =
      by_cond (PduTells pdu) (eqb (entry_refusal s (length store) (length out) pdu) 0) _ _
      (target_tells (conf_of pdu) (fields_of pdu).segmentmetadata (data_field pdu) (is_file_data pdu))
      (λ e. absurd (entry_never s (length store) (length out) pdu e))

  poll_never : (poll_call s store out timer).called.answer ≡ 19 → ⊥
  unfolding poll_call busy_call ran_of
  poll_never =
      by_cond (λ (o : Outcome). o.called.answer ≡ 19 → ⊥) (eqb (unfit_refusal s (length store) (length out)) 0) _ _
      (by_cond (λ (o : Outcome). o.called.answer ≡ 19 → ⊥) (busy s) _ _ (λ e. omega arith) (λ e. omega arith))
      (unfit-never s (length store) (length out))

  pub call_tells : (i : Input) → (call_of s store out i timer).called.answer ≡ 19 → (pdu : List ℕ) × (i ≡ Input.packet pdu) × (is_file_data pdu ≡ true) × (takes_data s.transfer.step ≡ true) × (call_of s store out i timer ≡ unfit_call s store out pdu)
  unfolding call_of
  call_tells Input.poll e = absurd (poll_never e)
  call_tells (Input.packet pdu) e = let told = insert_tells pdu e in (pdu, refl, told.0, told.1.0, told.1.1)
