-- No call after a fresh state answers 21, whatever calls came between: only the order that a call begins with has that number, its condition is that the state
-- is broken, and no call leaves a broken state.
use Prim.Native.Nat.{ℕ}
use mathlib.Core.Path.{◌≡◌, refl}
use mathlib.Core.Bool.{Bool, true, false, not, ◌&&◌}
use mathlib.Core.List.{List, [], ◌∷◌, ◌++◌}
use native.Mathlib.Omega.{arith}
use lib.Dec.{ltb, eqb}
use lib.ListN.{length}
use borrow.Author.Tests.{eqb-false, not-true}
use Rattle.laws.specs.First.{first_of}
use Rattle.laws.proofs.Tests.{both_true, by_cond}
use Rattle.codes.specs.Codes.{filestore_rejection}
use Rattle.header.specs.Header.{header_order, conf_of, fields_of, data_field}
use Rattle.header.specs.declared.CommonPduConfig.{CommonPduConfig}
use Rattle.packet_info.specs.Routing.{directive_order, is_file_data, foreign, kind_of, packet_order}
use Rattle.packet_info.specs.declared.Target.{Target}
use Rattle.bodies.specs.Eof.{eof_order}
use Rattle.finished.specs.Finished.{out_size}
use Rattle.filestore.specs.File.{file_of}
use Rattle.config.specs.Config.{handler_of}
use Rattle.transfer.specs.Segment.{segment_order, segment_refusal, segment_by, segmented_of, Kept}
use Rattle.transfer.specs.declared.TransferState.{TransferState}
use Rattle.state.specs.State.{busy}
use Rattle.state.specs.Unfit.{state_broken, store_unfit, unfit_order, unfit_refusal}
use Rattle.state.specs.declared.State.{State}
use Rattle.inserting.specs.Insert.{place_order, body_order, body_refusal, segment_placed, segment_taken, file_data_placed, eof_call_order, eof_call_refusal, eof_taken, eof_inserted, Placed}
use Rattle.inserting.specs.Metadata.{names_order, rest_order}
use Rattle.dest.specs.Metadata.{metadata_order, metadata_refusal}
use Rattle.dest.specs.Call.{Input, poll, packet, Outcome, faults_of, ran_of, busy_call, refused_of, after_insert, file_data_call, eof_call, start_called, started_call, target_call, entry_order, entry_refusal, insert_call, poll_call, call_of}
use Rattle.inserting.specs.Insert.{Inserted}
use Rattle.dest.specs.Call.{Called}
use Rattle.promises.specs.Reached.{Reached}
use Rattle.promises.proofs.Sound.{reached_sound}

-- a number that is not 21
abbrev Other : ℕ → Type 0
Other n = n ≡ 21 → ⊥

-- no refusal of a list has the number 21
abbrev spares : List (ℕ × Bool) → Bool
spares [] = true
spares (c ∷ rest) = not (eqb c.0 21) && spares rest

-- so it does not tell 21
tells-other : (l : List (ℕ × Bool)) → spares l ≡ true → Other (first_of l)
tells-other [] t = λ e. omega arith
tells-other (c ∷ rest) t =
    let p = both_true (not (eqb c.0 21)) (spares rest) t in
    by_cond Other c.1 c.0 (first_of rest) (eqb-false c.0 21 (not-true (eqb c.0 21) p.0)) (tells-other rest p.1)

-- the PDU's own refusals
packet_spares : (pdu : List ℕ) (local : ℕ) → spares (packet_order pdu local) ≡ true
unfolding packet_order header_order directive_order
packet_spares pdu local =
    let Spares : List (ℕ × Bool) → Type 0 = λ l. spares (l ++ ((9, foreign pdu local) ∷ [])) ≡ true in
    by_cond Spares (is_file_data pdu) [] (directive_order (data_field pdu)) refl refl

-- a segment's answer: 0, 19, or a refusal of its order
segment-other : (n h : ℕ) (t : TransferState) (store : List ℕ) (o : ℕ) (d : List ℕ) → Other n → Other (segment_by n h t store o d).segmented.answer
unfolding segment_by
segment-other n h t store o d p =
    let Answers : Kept → Type 0 = λ k. Other k.segmented.answer in
    by_cond Answers (eqb n 0) _ _ (λ e. omega arith) (by_cond Answers (eqb n 19) _ _ (λ e. omega arith) p)

segmented-other : (h : ℕ) (t : TransferState) (store : List ℕ) (o : ℕ) (d : List ℕ) → Other (segmented_of h t store o d).segmented.answer
unfolding segmented_of segment_refusal segment_order
segmented-other h t store o d =
    segment-other (segment_refusal t (length store) o (length d)) h t store o d (tells-other (segment_order t (length store) o (length d)) refl)

-- the answer of a file data PDU and of an EOF
data_other : (h : ℕ) (notify : Bool) (t : TransferState) (store : List ℕ) (c : CommonPduConfig) (m : Bool) (d : List ℕ) → Other (file_data_placed h notify t store c m d).inserted.answer
unfolding file_data_placed segment_placed segment_taken body_refusal body_order place_order
data_other h notify t store c m d =
    let Answers : Placed → Type 0 = λ p. Other p.inserted.answer in
    by_cond Answers (eqb (body_refusal t c m d) 0) _ _ (segmented-other h t store _ _) (tells-other (body_order t c m d) refl)

-- a call does not answer 21
abbrev Calls : Called → Type 0
Calls c = Other c.answer

abbrev Told : Outcome → Type 0
Told o = Calls o.called

module _ (s : State) where
  eof-other : (notify : Bool) (file : List ℕ) (c : CommonPduConfig) (d : List ℕ) → Other (eof_inserted (faults_of s.config.handlers) notify s.transfer file c d).answer
  unfolding eof_inserted eof_taken eof_call_refusal eof_call_order place_order eof_order
  eof-other notify file c d =
      let Answers : Inserted → Type 0 = λ i. Other i.answer in
      by_cond Answers (eqb (eof_call_refusal s.transfer c d) 0) _ _ (λ e. omega arith) (tells-other (eof_call_order s.transfer c d) refl)

  -- a call that goes on after the insertion, or stops there
  busy-other : (i : Inserted) (store out : List ℕ) (timer : Bool) → Told (busy_call s i store out timer)
  unfolding busy_call ran_of
  busy-other i store out timer = λ e. omega arith

  refused-other : (i : Inserted) → Other i.answer → Calls (refused_of s i)
  unfolding refused_of
  refused-other i h = by_cond Calls (eqb i.answer 19) _ _ (λ e. omega arith) h

  after-other : (i : Inserted) (store out : List ℕ) (timer : Bool) → Other i.answer → Told (after_insert s i store out timer)
  unfolding after_insert
  after-other i store out timer h =
      by_cond Told (eqb i.answer 0) _ _ (busy-other i store out timer) (refused-other i h)

  -- by the PDU's kind
  start-other : (c : CommonPduConfig) (d : List ℕ) → Calls (started_call s c d)
  unfolding started_call start_called metadata_refusal metadata_order rest_order names_order
  start-other c d =
      by_cond Calls (eqb (metadata_refusal s c d) 0) _ _ (λ e. omega arith) (tells-other (metadata_order s c d) refl)

  target_other : (k : Target) (store out : List ℕ) (c : CommonPduConfig) (m : Bool) (d : List ℕ) (timer : Bool) → Told (target_call k s store out c m d timer)
  unfolding file_data_call eof_call
  target_other Target.FileData store out c m d timer =
      after-other _ _ out timer (data_other (handler_of s.config.handlers filestore_rejection) s.config.segmentrecv s.transfer store c m d)
  target_other Target.Metadata store out c m d timer = start-other c d
  target_other Target.Eof store out c m d timer =
      after-other _ store out timer (eof-other s.config.eofrecv (file_of store s.transfer.file.length) c d)

  -- what a call begins with tells 21 only of a broken state
  unfit-other : (size out : ℕ) (l : List (ℕ × Bool)) → spares l ≡ true → state_broken s ≡ false → Other (first_of (unfit_order s size out ++ l))
  unfolding unfit_order
  unfit-other size out l t e = rw e (tells-other ((1, store_unfit s size) ∷ (2, ltb out out_size) ∷ l) t)

  -- one call on a state that is not broken
  pub call_other : (store out : List ℕ) (i : Input) (timer : Bool) → state_broken s ≡ false → (call_of s store out i timer).called.answer ≡ 21 → ⊥
  unfolding call_of poll_call insert_call unfit_refusal unfit_order entry_refusal entry_order
  call_other store out poll timer e =
      by_cond Told (eqb (unfit_refusal s (length store) (length out)) 0) _ _
      (by_cond Told (busy s) _ _ (busy-other _ store out timer) (λ z. omega arith))
      (unfit-other (length store) (length out) [] refl e)
  call_other store out (packet pdu) timer e =
      by_cond Told (eqb (entry_refusal s (length store) (length out) pdu) 0) _ _
      (target_other (kind_of (is_file_data pdu) (data_field pdu)) store out (conf_of pdu) (fields_of pdu).segmentmetadata (data_field pdu) timer)
      (unfit-other (length store) (length out) (packet_order pdu s.config.local.value) (packet_spares pdu s.config.local.value) e)

-- on a state that calls lead to, whatever buffers they were lent: it is not broken, and no call answers 21
pub never_21 : {s : State} → Reached s → (store out : List ℕ) (i : Input) (timer : Bool) → (call_of s store out i timer).called.answer ≡ 21 → ⊥
never_21 {s} r store out i timer = call_other s store out i timer (reached_sound r)
