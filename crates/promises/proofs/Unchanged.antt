-- A call whose answer is neither 0 nor 19 changes nothing: each layer of the call keeps this, so the call does.
use Prim.Native.Nat.{ℕ}
use mathlib.Core.Path.{◌≡◌, refl}
use mathlib.Core.Bool.{Bool}
use mathlib.Core.List.{List}
use lib.Dec.{eqb}
use lib.ListN.{length}
use Rattle.laws.proofs.Tests.{by_cond}
use Rattle.header.specs.Header.{conf_of, data_field}
use Rattle.header.specs.declared.CommonPduConfig.{CommonPduConfig}
use Rattle.packet_info.specs.Routing.{is_file_data, kind_of}
use Rattle.packet_info.specs.declared.Target.{Target}
use Rattle.transfer.specs.Segment.{Kept, segment_by, segmented_of}
use Rattle.transfer.specs.declared.TransferState.{TransferState}
use Rattle.state.specs.State.{busy}
use Rattle.state.specs.Unfit.{unfit_refusal}
use Rattle.state.specs.declared.State.{State}
use Rattle.inserting.specs.Insert.{Placed, body_refusal, segment_offset, segment_bytes, segment_placed, segment_taken, file_data_placed}
use Rattle.dest.specs.Metadata.{metadata_refusal}
use Rattle.dest.specs.Call.{Input, Outcome, outcome, refused_call, ran_of, busy_call, refused_of, after_insert, file_data_call, eof_call, start_called, started_call, target_call, entry_refusal, insert_call, poll_call, call_of}
use Rattle.inserting.specs.Insert.{Inserted}

-- an outcome that changes nothing unless its answer is 0 or 19
abbrev pub Unchanged : State → List ℕ → List ℕ → Outcome → Type 0
Unchanged s store out o =
    (o.called.answer ≡ 0 → ⊥) → (o.called.answer ≡ 19 → ⊥) → o ≡ refused_call o.called.answer s store out

-- a segment, and file data, that wrote the store only where the answer is 0
abbrev SegmentKeeps : List ℕ → Kept → Type 0
SegmentKeeps store k = (k.segmented.answer ≡ 0 → ⊥) → k.store ≡ store

abbrev Keeps : List ℕ → Placed → Type 0
Keeps store p = (p.inserted.answer ≡ 0 → ⊥) → p.store ≡ store

module _ (s : State) (store out : List ℕ) (timer : Bool) where
  -- a PDU that is not taken, where the insertion left the store
  after-refused : (i : Inserted) (left : List ℕ) → ((i.answer ≡ 0 → ⊥) → left ≡ store) → Unchanged s store out (outcome (refused_of s i) left out)
  unfolding refused_of
  after-refused i left same =
      by_cond (λ c. Unchanged s store out (outcome c left out)) (eqb i.answer 19) _ _ (λ h k. absurd (k refl)) (λ h k. rw (same h))

  after_unchanged : (i : Inserted) (left : List ℕ) → ((i.answer ≡ 0 → ⊥) → left ≡ store) → Unchanged s store out (after_insert s i left out timer)
  unfolding after_insert busy_call ran_of
  after_unchanged i left same =
      by_cond (Unchanged s store out) (eqb i.answer 0) _ _ (λ h k. absurd (h refl)) (after-refused i left same)

  segment_keeps : (n h : ℕ) (t : TransferState) (o : ℕ) (d : List ℕ) → SegmentKeeps store (segment_by n h t store o d)
  unfolding segment_by
  segment_keeps n h t o d =
      by_cond (SegmentKeeps store) (eqb n 0) _ _ (λ z. absurd (z refl)) (by_cond (SegmentKeeps store) (eqb n 19) _ _ (λ z. refl) (λ z. refl))

  file_data_keeps : (h : ℕ) (notify : Bool) (t : TransferState) (c : CommonPduConfig) (m : Bool) (d : List ℕ) → Keeps store (file_data_placed h notify t store c m d)
  unfolding file_data_placed segment_placed segment_taken segmented_of
  file_data_keeps h notify t c m d =
      by_cond (Keeps store) (eqb (body_refusal t c m d) 0) _ _ (segment_keeps _ h t (segment_offset c m d) (segment_bytes c m d)) (λ z. refl)

  -- Metadata
  start_unchanged : (c : CommonPduConfig) (d : List ℕ) → Unchanged s store out (outcome (started_call s c d) store out)
  unfolding started_call start_called
  start_unchanged c d =
      by_cond (λ x. Unchanged s store out (outcome x store out)) (eqb (metadata_refusal s c d) 0) _ _ (λ h k. absurd (h refl)) (λ h k. refl)

  target_unchanged : (k : Target) (c : CommonPduConfig) (m : Bool) (d : List ℕ) → Unchanged s store out (target_call k s store out c m d timer)
  unfolding file_data_call eof_call
  target_unchanged Target.FileData c m d = after_unchanged _ _ (file_data_keeps _ _ s.transfer c m d)
  target_unchanged Target.Metadata c m d = start_unchanged c d
  target_unchanged Target.Eof c m d = after_unchanged _ store (λ z. refl)

  pub call_unchanged : (i : Input) → Unchanged s store out (call_of s store out i timer)
  unfolding call_of poll_call insert_call busy_call ran_of
  call_unchanged Input.poll =
      by_cond (Unchanged s store out) (eqb (unfit_refusal s (length store) (length out)) 0) _ _
      (by_cond (Unchanged s store out) (busy s) _ _ (λ h k. absurd (h refl)) (λ h k. refl))
      (λ h k. refl)
  call_unchanged (Input.packet pdu) =
      by_cond (Unchanged s store out) (eqb (entry_refusal s (length store) (length out) pdu) 0) _ _
      (target_unchanged (kind_of (is_file_data pdu) (data_field pdu)) (conf_of pdu) _ (data_field pdu))
      (λ h k. refl)
