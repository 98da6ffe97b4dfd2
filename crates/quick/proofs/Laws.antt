-- The quick way is the call: where it is done the call leaves what it hands back, whatever the timer flag, and where it is not the store is as it was.
use Rattle.std.specs.Prelude.{None}
use Prim.Native.Nat.{ℕ}
use mathlib.Core.Path.{◌≡◌, refl, sym, ◌∙◌}
use mathlib.Core.Bool.{Bool, true, false, cond, true≢false, false≢true}
use mathlib.Core.List.{List}
use native.Mathlib.Omega.{arith}
use lib.Dec.{eqb}
use lib.ListN.{length}
use borrow.Author.Tests.{eqb-true, eqb-false}
use Rattle.laws.proofs.Tests.{by_cond, by_test}
use Rattle.header.specs.Header.{header_refusal, conf_of, fields_of, data_field}
use Rattle.header.specs.declared.CommonPduConfig.{CommonPduConfig}
use Rattle.packet_info.specs.Routing.{directive, is_file_data, kind_of}
use Rattle.packet_info.specs.declared.Target.{Target}
use Rattle.packet_info.proofs.Laws.{header_good}
use Rattle.transfer.specs.Transfer.{is_receiving}
use Rattle.transfer.specs.Segment.{segment_refusal}
use Rattle.transfer.specs.Put.{Put, put_by, put_of}
use Rattle.transfer.specs.declared.TransferState.{TransferState}
use Rattle.state.specs.declared.State.{State}
use Rattle.inserting.specs.Insert.{body_refusal, segment_offset, segment_bytes}
use Rattle.inserting.specs.FileData.{Taken, Took, taken_of, segment_inserted}
use Rattle.dest.specs.Call.{packet, Outcome, outcome, called, notes, refused_of, after_insert, target_call, entry_refusal, insert_call, call_of}
use Rattle.dest.specs.FileData.{data_call}
use Rattle.dest.proofs.Laws.{entry_fit, packet_next}
use Rattle.dest.proofs.FileData.{data_call_lem, received-rests}
use Rattle.quick.specs.Quick.{Quick, general, declined, taken_quick, Quicked, quicked, took_quick, target_quick, quick_of, with_quick}

-- the call that a quick one stands for, with that store and out buffer left
abbrev pub quick_call : State → Quicked → List ℕ → Outcome
quick_call s q out =
    outcome
    (called q.quick.answer (with_quick s q.quick.file) 0
    (notes q.quick.note None None None None))
    q.store
    out

-- file data that are refused leave the store
put-kept : (n : ℕ) (t : TransferState) (store : List ℕ) (o : ℕ) (d : List ℕ) → ((put_by n t store o d).answered.answer ≡ 0 → ⊥) → (put_by n t store o d).store ≡ store
unfolding put_by
put-kept n t store o d =
    by_cond (λ (p : Put). (p.answered.answer ≡ 0 → ⊥) → p.store ≡ store) (eqb n 0) _ _ (λ w. absurd (w refl)) (λ w. refl)

took-kept : (t : TransferState) (store : List ℕ) (c : CommonPduConfig) (m : Bool) (d : List ℕ) → ((taken_of t store c m d).left.answer ≡ 0 → ⊥) → (taken_of t store c m d).store ≡ store
unfolding taken_of put_of
took-kept t store c m d =
    by_cond (λ (k : Took). (k.left.answer ≡ 0 → ⊥) → k.store ≡ store) (eqb (body_refusal t c m d) 0) _ _
    (put-kept (segment_refusal t (length store) (segment_offset c m d) (length (segment_bytes c m d))) t store (segment_offset c m d) (segment_bytes c m d))
    (λ w. refl)

module _ (s : State) (store out : List ℕ) (timer : Bool) where
  -- a call and the quick way beside it
  pub record Same (o : Outcome) (q : Quicked) : Type 0 where
    pub right : q.quick.done ≡ true → o ≡ quick_call s q out
    pub kept : q.quick.done ≡ false → q.store ≡ store

  -- a call that goes the general way
  left-same : (o : Outcome) → Same o (quicked (general s.transfer.file) store)
  left-same o = record { right = λ e. absurd (false≢true e); kept = λ e. refl }

  -- file data in the receiving step that left the file so
  module _ (k : Took) (receives : is_receiving s.transfer.step ≡ true) (keeps : (k.left.answer ≡ 0 → ⊥) → k.store ≡ store) where
    declines : eqb k.left.answer 19 ≡ false → eqb k.left.answer 0 ≡ false → data_call s k.left k.store out timer ≡ quick_call s (quicked (declined k.left.answer s.transfer.file) k.store) out
    unfolding data_call after_insert segment_inserted refused_of
    declines p q = rw (q, p, q, p)

    taken-same : Same (data_call s k.left k.store out timer) (took_quick s.config.segmentrecv s.transfer k)
    unfolding taken_quick
    taken-same =
        let Beside : Quick → Type 0 = λ q. Same (data_call s k.left k.store out timer) (quicked q k.store) in
        by_test Beside (eqb k.left.answer 19) _ _
        (λ p. record { right = λ e. absurd (false≢true e); kept = λ e. keeps (λ z. omega (arith, z, eqb-true k.left.answer 19 p)) })
        (λ p. by_test Beside (eqb k.left.answer 0) _ _
        (λ q. record { right = λ e. sym (received-rests s k.left k.store out timer q receives); kept = λ e. absurd (true≢false e) })
        (λ q. record { right = λ e. declines p q; kept = λ e. absurd (true≢false e) }))

  -- by the PDU's kind
  target_same : (x : Target) (c : CommonPduConfig) (m : Bool) (d : List ℕ) → is_receiving s.transfer.step ≡ true → Same (target_call x s store out c m d timer) (target_quick x s store c m d)
  target_same Target.FileData c m d receives =
      let k = taken_of s.transfer store c m d in
      rw (data_call_lem s store out c m d timer) (taken-same k receives (took-kept s.transfer store c m d))
  target_same Target.Metadata c m d receives = left-same _
  target_same Target.Eof c m d receives = left-same _

  -- any PDU: by the step and the refusal
  module _ (pdu : List ℕ) where
    abbrev refusal : ℕ
    refusal = entry_refusal s (length store) (length out) pdu

    by_refusal : (receiving entered : Bool) → is_receiving s.transfer.step ≡ receiving → eqb refusal 0 ≡ entered → Same (call_of s store out (packet pdu) timer) (quick_of s store (length out) pdu)
    unfolding call_of insert_call quick_of
    by_refusal true true r e = rw (r, e) (target_same (kind_of (is_file_data pdu) (data_field pdu)) (conf_of pdu) (fields_of pdu).segmentmetadata (data_field pdu) r)
    by_refusal true false r e = rw (r, e) (record { right = λ z. refl; kept = λ z. absurd (true≢false z) })
    by_refusal false entered r e = rw r (left-same _)

    pub quick_same : Same (call_of s store out (packet pdu) timer) (quick_of s store (length out) pdu)
    quick_same = by_refusal (is_receiving s.transfer.step) (eqb refusal 0) refl refl

-- a segment that was taken: its PDU is file data with a good header, and it is counted by its bytes
pub record Counted (pdu : List ℕ) (q : Quick) : Type 0 where
  pub header : header_refusal pdu ≡ 0
  pub file-data : is_file_data pdu ≡ true
  pub bytes : q.count ≡ length (segment_bytes (conf_of pdu) (fields_of pdu).segmentmetadata (data_field pdu))

-- file data: where the answer is 0 the count is the segment's
took_count : (t : TransferState) (store : List ℕ) (c : CommonPduConfig) (m : Bool) (d : List ℕ) → (taken_of t store c m d).left.answer ≡ 0 → (taken_of t store c m d).left.count ≡ length (segment_bytes c m d)
unfolding taken_of
took_count t store c m d =
    by_test (λ (k : Took). k.left.answer ≡ 0 → k.left.count ≡ length (segment_bytes c m d)) (eqb (body_refusal t c m d) 0) _ _
    (λ e z. refl)
    (λ e z. absurd (eqb-false (body_refusal t c m d) 0 e z))

quick_count_by : (notify : Bool) (t : TransferState) (k : Taken) (n : ℕ) → (k.answer ≡ 0 → k.count ≡ n) → (taken_quick notify t k).done ≡ true → (taken_quick notify t k).answer ≡ 0 → (taken_quick notify t k).count ≡ n
unfolding taken_quick
quick_count_by notify t k n same =
    let Counts : Quick → Type 0 = λ q. q.done ≡ true → q.answer ≡ 0 → q.count ≡ n in
    by_cond Counts (eqb k.answer 19) _ _ (λ d. absurd (false≢true d))
    (by_test Counts (eqb k.answer 0) _ _ (λ e d z. same (eqb-true k.answer 0 e)) (λ e d z. absurd (eqb-false k.answer 0 e z)))

module _ (s : State) (store : List ℕ) (out : ℕ) (pdu : List ℕ) where
  abbrev Of : Quicked → Type 0
  Of q = q.quick.done ≡ true → q.quick.answer ≡ 0 → Counted pdu q.quick

  -- a directive goes the general way
  by_directive : (b : Bool) → Of (target_quick (cond b Target.Metadata Target.Eof) s store (conf_of pdu) (fields_of pdu).segmentmetadata (data_field pdu))
  by_directive true d = absurd (false≢true d)
  by_directive false d = absurd (false≢true d)

  by_kind : (b : Bool) → is_file_data pdu ≡ b → entry_refusal s (length store) out pdu ≡ 0 → Of (target_quick (kind_of b (data_field pdu)) s store (conf_of pdu) (fields_of pdu).segmentmetadata (data_field pdu))
  by_kind true e z = λ d a. record {
    header = header_good pdu s.config.local.value (sym (packet_next s (length store) out pdu (entry_fit s (length store) out pdu z)) ∙ z);
    file-data = e;
    bytes = quick_count_by s.config.segmentrecv s.transfer (taken_of s.transfer store (conf_of pdu) (fields_of pdu).segmentmetadata (data_field pdu)).left _ (took_count s.transfer store (conf_of pdu) (fields_of pdu).segmentmetadata (data_field pdu)) d a;
  }
  by_kind false e z = by_directive (eqb (directive (data_field pdu)) 7)

  pub quick_counted : Of (quick_of s store out pdu)
  unfolding quick_of
  quick_counted =
      by_cond Of (is_receiving s.transfer.step) _ _
      (by_test Of (eqb (entry_refusal s (length store) out pdu) 0) _ _ (λ e. by_kind (is_file_data pdu) refl (eqb-true _ 0 e)) (λ e d a. absurd (eqb-false _ 0 e a)))
      (λ d. absurd (false≢true d))
