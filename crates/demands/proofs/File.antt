-- The file over a run (demand 2): a transfer's file, while it runs and when it has ended, is what its accepted segments make of an empty one, and nothing else is in it.
use Rattle.std.specs.Prelude.{None}
use Rattle.transfer.specs.Transfer.{Note}
use Prim.Native.Nat.{ℕ, ◌≤◌, ◌<◌}
use mathlib.Core.Path.{◌≡◌, refl, sym, ap, subst, ◌∙◌}
use mathlib.Core.Bool.{Bool, true, false, cond, not, true≢false}
use mathlib.Core.List.{List, [], ◌∷◌, ◌++◌}
use native.Mathlib.Omega.{arith}
use lib.Dec.{ltb, eqb}
use lib.ListN.{length, get_or}
use borrow.Author.Tests.{ltb-false, eqb-true, eqb-false, eq-eqb, not-true, not-false}
use Rattle.laws.specs.First.{first_of}
use Rattle.laws.proofs.Order.{clear, first_clear, first_append, first_right}
use Rattle.laws.proofs.Tests.{by_cond, by_test, both_true, neither, and-false}
use Rattle.codes.specs.Codes.{filestore_rejection}
use Rattle.header.specs.Header.{conf_of, fields_of, data_field}
use Rattle.packet_info.specs.Routing.{directive, is_metadata, is_eof, is_file_data, kind_of, packet_order}
use Rattle.packet_info.specs.declared.Target.{Target}
use Rattle.packet_info.specs.declared.Target.TheVariants.{FileData, Metadata, Eof}
use Rattle.packet_info.proofs.Laws.{metadata_only}
use Rattle.finished.specs.declared.EntityId.{EntityId}
use Rattle.config.specs.declared.Config.{Config}
use Rattle.transfer.specs.Transfer.{is_idle, is_completion, idle_after, started_of, with_file}
use Rattle.transfer.specs.Fault.{handled}
use Rattle.transfer.specs.Segment.{segment_order, segment_refusal}
use Rattle.transfer.specs.Put.{put_by, put_of}
use Rattle.steps.specs.Completion.{Ended, discards, finish_of, finished_note, kept_length, completion_of}
use Rattle.steps.specs.Busy.{Left, waited_of, ended_of, busy_of}
use Rattle.steps.specs.declared.Faults.{Faults}
use Rattle.steps.specs.declared.Remote.{Remote}
use Rattle.transfer.specs.declared.TransferState.{TransferState}
use Rattle.state.specs.State.{busy, fresh_of, settled, begun}
use Rattle.state.specs.Unfit.{store_unfit, unfit_order, unfit_refusal}
use Rattle.state.specs.declared.State.{State}
use Rattle.inserting.specs.Insert.{takes_data, body_order, body_refusal, place_order, inserted, refused_insert, file_data_order, eof_taken}
use Rattle.dest.specs.Metadata.{metadata_refusal, start_of, begun_of}
use Rattle.dest.specs.Call.{Input, poll, packet, Outcome, faults_of, remote_of, ran_of, busy_call, start_called, started_call, entry_order, entry_refusal, poll_call, call_of}
use Rattle.inserting.specs.FileData.{taken_of}
use Rattle.inserting.specs.Insert.{Inserted}
use Rattle.inserting.proofs.Laws.{takes-busy}
use Rattle.promises.specs.Nineteen.{segment_in, filestore_handler}
use Rattle.promises.proofs.Refused.{refused_changes_nothing, nineteen}
use Rattle.demands.specs.Runs.{Held, Given, fresh_held, called_with, after, run_of}
use Rattle.demands.specs.Order.{kind_order_of}
use Rattle.demands.specs.Demands.{FileIs}
use Rattle.demands.specs.File.{with_pdu, with_call, segments_after, says_discarded, starts_file, discarded_by, discarded_after}
use Rattle.demands.proofs.Through.{Through, through-handled, through-eof, through_waited}
use Rattle.demands.proofs.Accepted.{entered, took_data, data_note, data_calls}
use Rattle.demands.proofs.Eof.{goes, eof_call_lem, receives, handling}
use Rattle.filestore.specs.File.{store_limit, file_of, Stored, stored, with_segment, stored_of}
use Rattle.filestore.specs.Contents.{Segment, fits_in, all_fit, after_one, after_all, received, reach}
use Rattle.filestore.proofs.Contents.{received-length, received_bytes}
use Rattle.filestore.proofs.Laws.{segment_keeps, length-within, stored-fits}

-- one segment more, behind the others
after_snoc : (f : Stored) (segments : List Segment) (g : Segment) → after_all f (segments ++ (g ∷ [])) ≡ after_one (after_all f segments) g
unfolding after_all
after_snoc f [] g = refl
after_snoc f (x ∷ later) g = after_snoc (after_one f x) later g

fit_snoc : (size : ℕ) (segments : List Segment) (g : Segment) → all_fit size segments ≡ true → fits_in size g ≡ true → all_fit size (segments ++ (g ∷ [])) ≡ true
unfolding all_fit
fit_snoc size [] g p q = rw q
fit_snoc size (x ∷ later) g p q =
    let both = both_true (fits_in size x) _ p in rw (both.0, fit_snoc size later g both.1 q)

-- segments that fit keep the store's length
length-kept : (f : Stored) (segments : List Segment) → all_fit (length f.store) segments ≡ true → f.len ≤ length f.store → length (after_all f segments).store ≡ length f.store
unfolding after_all all_fit with_segment
length-kept f [] fit within = refl
length-kept f (g ∷ later) fit within =
    let both = both_true (fits_in (length f.store) g) _ fit in
    let same = segment_keeps f.store f.len g.offset g.bytes both.0 within in
    let inside = length-within f.len g.offset (length g.bytes) (length f.store) both.0 within in
    length-kept (after_one f g) later (rw same both.1) (rw same inside) ∙ same

-- a file of len bytes in a store that the segments made of an empty one
pub record Filled (segments : List Segment) (len : ℕ) (store : List ℕ) : Type 0 where
  pub base : List ℕ
  pub same : stored len store ≡ received base segments
  pub fits : all_fit (length base) segments ≡ true

filled_none : (store : List ℕ) → Filled [] 0 store
unfolding after_all all_fit
filled_none store = record { base = store; same = refl; fits = refl }

-- with one more that fits
filled_more : (segments : List Segment) (len : ℕ) (store : List ℕ) (g : Segment) → Filled segments len store → fits_in (length store) g ≡ true → len ≤ length store → Filled (segments ++ (g ∷ [])) (stored_of store len g.offset g.bytes).len (stored_of store len g.offset g.bytes).store
filled_more segments len store g f fit within =
    let size : length store ≡ length f.base = ap (λ (x : Stored). length x.store) f.same ∙ length-kept (stored 0 f.base) segments f.fits (omega arith) in
    record {
      base = f.base;
      same = stored-fits store len g.offset g.bytes fit within ∙ ap (λ (x : Stored). after_one x g) f.same ∙ sym (after_snoc (stored 0 f.base) segments g);
      fits = fit_snoc (length f.base) segments g f.fits (rw size at fit);
    }

-- the length goes through every step but completion, which leaves the transfer idle
abbrev LengthOf : ℕ → TransferState → Type 0
LengthOf n t = t.file.length ≡ n

length-through : (n : ℕ) → Through (LengthOf n)
unfolding idle_after
length-through n =
    record {
      abandon = λ t k. k;
      cancel = λ t c k. k;
      complete = λ t k. k;
      wait = λ t sum k. k;
      count = λ t c k. k;
      deliver = λ t k. k;
    }

-- what is known of a receiver over the segments so far: they make a file of `reached` bytes, which is the receiver's unless it was discarded
pub record Holds (segments : List Segment) (gone : Bool) (s : State) (store : List ℕ) : Type 0 where
  pub reached : ℕ
  pub filled : Filled segments reached store
  pub kept : gone ≡ false → s.transfer.file.length ≡ reached
  pub whole : 0 < s.transfer.file.length → s.transfer.file.length ≡ reached
  pub runs : busy s ≡ true → gone ≡ false

-- where a transfer runs, its file is theirs
running : (segments : List Segment) (gone : Bool) (s : State) (store : List ℕ) → Holds segments gone s store → busy s ≡ true → Filled segments s.transfer.file.length store
running segments gone s store h b = subst (λ (n : ℕ). Filled segments n store) (sym (h.kept (h.runs b))) h.filled

abbrev Leaves : List Segment → Bool → Outcome → Type 0
Leaves segments gone o = Holds segments gone o.called.state o.store

-- what the busy steps leave of a file of n bytes, by what the Finished indication says
record Ran (n : ℕ) (finished : Note) (t : TransferState) : Type 0 where
  kept : says_discarded false finished ≡ false → t.file.length ≡ n
  whole : 0 < t.file.length → t.file.length ≡ n
  runs : is_idle t.step ≡ false → says_discarded false finished ≡ false

discard_kept : (d r : Bool) (len n : ℕ) → len ≡ n → not (cond d false r) ≡ false → cond d 0 len ≡ n
discard_kept true r len n e s = absurd (true≢false s)
discard_kept false r len n e s = e

discard_whole : (d : Bool) (len n : ℕ) → len ≡ n → 0 < cond d 0 len → cond d 0 len ≡ n
discard_whole true len n e h = absurd (omega (arith, h))
discard_whole false len n e h = e

completion_ran : (local : EntityId) (discard : Bool) (t : TransferState) (out : List ℕ) (n : ℕ) → t.file.length ≡ n → Ran n (completion_of local discard t out).completed.finished (completion_of local discard t out).completed.state
unfolding completion_of idle_after finished_note finish_of kept_length
completion_ran local discard t out n e =
    let ran : Ran n (finished_note t discard) (idle_after (kept_length t discard)) = record {
      kept = discard_kept (discards t discard) t.finish.retained t.file.length n e;
      whole = discard_whole (discards t discard) t.file.length n e;
      runs = λ i. absurd (true≢false i);
    } in
    by_cond (λ (x : Ended). Ran n x.completed.finished x.completed.state) t.closure _ _ ran ran

busy_ran : (f : Faults) (r : Remote) (t : TransferState) (store out : List ℕ) (timer : Bool) → Ran t.file.length (busy_of f r t store out timer).busy.finished (busy_of f r t store out timer).busy.state
unfolding busy_of ended_of
busy_ran f r t store out timer =
    let d = waited_of f r t store timer in
    let same = through_waited (LengthOf t.file.length) (length-through t.file.length) f r t refl store timer in
    by_cond (λ (x : Left). Ran t.file.length x.busy.finished x.busy.state) (is_completion d.state.step) _ _
    (completion_ran r.local r.discard d.state out t.file.length same)
    (record { kept = λ e. same; whole = λ h. same; runs = λ e. refl })

-- the busy steps behind an insertion that left the file so, where none was discarded
run_holds : (segments : List Segment) (gone : Bool) (s : State) (i : Inserted) (store out : List ℕ) (timer : Bool) → Filled segments i.transfer.file.length store → gone ≡ false → Leaves segments (says_discarded gone (busy_call s i store out timer).called.notes.fifth) (busy_call s i store out timer)
unfolding busy_call ran_of settled
run_holds segments gone s i store out timer f e =
    let ran = busy_ran (faults_of s.config.handlers) (remote_of s.config s.transfer.conf.source) i.transfer store out timer in
    rw e (record {
      reached = i.transfer.file.length;
      filled = f;
      kept = ran.kept;
      whole = ran.whole;
      runs = λ b. ran.runs (not-true _ b);
    })

-- a body that is neither Metadata's nor file data is an EOF's
eof-left : (x : Target) → is_metadata x ≡ false → (x ≡ FileData → ⊥) → x ≡ Eof
eof-left FileData m d = absurd (d refl)
eof-left Metadata m d = absurd (true≢false m)
eof-left Eof m d = refl

directive_only : (b : Bool) → cond b Metadata Eof ≡ FileData → ⊥
directive_only true k = true≢false (ap is_metadata k)
directive_only false k = true≢false (ap is_eof k)

not_data : (pdu : List ℕ) → is_file_data pdu ≡ false → kind_of (is_file_data pdu) (data_field pdu) ≡ FileData → ⊥
not_data pdu e k = directive_only (eqb (directive (data_field pdu)) 7) (rw e at k)

-- an accepted call with a PDU
module _ (segments : List Segment) (gone : Bool) (s : State) (store out pdu : List ℕ) (timer : Bool) (holds : Holds segments gone s store) (answer : (call_of s store out (packet pdu) timer).called.answer ≡ 0) where
  abbrev t : TransferState
  t = s.transfer

  abbrev g : Segment
  g = segment_in pdu

  abbrev done : Outcome
  done = call_of s store out (packet pdu) timer

  -- a PDU that is no Metadata: the Finished indication alone tells of a discarded file
  no_start : is_metadata (kind_of (is_file_data pdu) (data_field pdu)) ≡ false → discarded_by gone (packet pdu) done ≡ says_discarded gone done.called.notes.fifth
  no_start e = rw (e, and-false (eqb done.called.answer 0))

  -- the file is within the store
  not-unfit : unfit_refusal s (length store) (length out) ≡ 0
  unfolding entry_refusal entry_order unfit_refusal unfit_order
  not-unfit =
      first_clear (unfit_refusal s (length store) (length out)) _ (sym (first_append (unfit_order s (length store) (length out)) (packet_order pdu s.config.local.value) tt) ∙ (entered s store out pdu timer answer).0)

  within : busy s ≡ true → t.file.length ≤ length store
  unfolding unfit_refusal unfit_order store_unfit
  within e =
      let unfit = (clear (unfit_order s (length store) (length out)) tt not-unfit).1.0 in
      ltb-false (length store) t.file.length (rw e at (neither (ltb store_limit (length store)) _ unfit).1)

  -- file data: one segment more
  module _ (kind : kind_of (is_file_data pdu) (data_field pdu) ≡ FileData) where
    order_clear : first_of (kind_order_of FileData s (length store) (conf_of pdu) (fields_of pdu).segmentmetadata (data_field pdu)) ≡ 0
    order_clear = rw kind at (entered s store out pdu timer answer).1

    body_clear : body_refusal t (conf_of pdu) (fields_of pdu).segmentmetadata (data_field pdu) ≡ 0
    unfolding body_refusal body_order place_order file_data_order
    body_clear =
        let order = body_order t (conf_of pdu) (fields_of pdu).segmentmetadata (data_field pdu) in
        first_clear (first_of order) _ (sym (first_append order (segment_order t (length store) g.offset (length g.bytes)) tt) ∙ order_clear)

    segment-clear : segment_refusal t (length store) g.offset (length g.bytes) ≡ 0
    unfolding body_refusal body_order place_order file_data_order segment_refusal
    segment-clear =
        let order = body_order t (conf_of pdu) (fields_of pdu).segmentmetadata (data_field pdu) in
        sym (first_right order (segment_order t (length store) g.offset (length g.bytes)) tt body_clear) ∙ order_clear

    took-length : (took_data s store out pdu).left.file.length ≡ (stored_of store t.file.length g.offset g.bytes).len
    unfolding taken_of put_of put_by
    took-length = rw (eq-eqb (body_refusal t (conf_of pdu) (fields_of pdu).segmentmetadata (data_field pdu)) 0 body_clear, eq-eqb (segment_refusal t (length store) g.offset (length g.bytes)) 0 segment-clear)

    took_store : (took_data s store out pdu).store ≡ (stored_of store t.file.length g.offset g.bytes).store
    unfolding taken_of put_of put_by
    took_store = rw (eq-eqb (body_refusal t (conf_of pdu) (fields_of pdu).segmentmetadata (data_field pdu)) 0 body_clear, eq-eqb (segment_refusal t (length store) g.offset (length g.bytes)) 0 segment-clear)

    fits : fits_in (length store) g ≡ true
    unfolding segment_refusal segment_order
    fits = not-false (fits_in (length store) g) (clear (segment_order t (length store) g.offset (length g.bytes)) tt segment-clear).1.0

    data_runs : busy s ≡ true
    unfolding body_refusal body_order place_order
    data_runs = takes-busy t.step (not-false (takes_data t.step) (clear (body_order t (conf_of pdu) (fields_of pdu).segmentmetadata (data_field pdu)) tt body_clear).0)

    data_holds : Leaves (segments ++ (g ∷ [])) (discarded_by gone (packet pdu) done) done
    data_holds =
        let grown = filled_more segments t.file.length store g (running segments gone s store holds data_runs) fits (within data_runs) in
        let filled : Filled (segments ++ (g ∷ [])) (took_data s store out pdu).left.file.length (took_data s store out pdu).store = rw (took-length, took_store) grown in
        rw (no_start (ap is_metadata kind), data_calls s store out pdu (entered s store out pdu timer answer).0 kind order_clear timer)
        (run_holds (segments ++ (g ∷ [])) gone s (inserted 0 (with_file t (took_data s store out pdu).left.file) (data_note s store out pdu) None None) (took_data s store out pdu).store out timer filled (holds.runs data_runs))

  -- EOF: the file stays
  eof-holds : kind_of (is_file_data pdu) (data_field pdu) ≡ Eof → Leaves segments (discarded_by gone (packet pdu) done) done
  unfolding eof_taken
  eof-holds kind =
      let e = handling s store out pdu timer answer in
      let runs : busy s ≡ true = takes-busy t.step (rw (receives s store out pdu timer answer kind)) in
      let same : e.state.file.length ≡ t.file.length = through-eof (LengthOf t.file.length) (length-through t.file.length) (faults_of s.config.handlers) t _ _ refl in
      rw (no_start (ap is_metadata kind), eof_call_lem s store out pdu timer answer kind timer)
      (run_holds segments gone s (eof_taken s.config.eofrecv t e) store out timer (subst (λ (n : ℕ). Filled segments n store) (sym same) (running segments gone s store holds runs)) (holds.runs runs))

  -- Metadata: a transfer without segments starts
  start-holds : kind_of (is_file_data pdu) (data_field pdu) ≡ Metadata → Leaves [] (discarded_by gone (packet pdu) done) done
  unfolding started_call start_called begun_of begun start_of started_of metadata_refusal
  start-holds kind =
      let clear-order = rw kind at (entered s store out pdu timer answer).1 in
      let starts : discarded_by gone (packet pdu) done ≡ false = rw (answer, kind) in
      rw (starts, goes s store out pdu timer answer timer, kind, eq-eqb (metadata_refusal s (conf_of pdu) (data_field pdu)) 0 clear-order)
      (record { reached = 0; filled = filled_none store; kept = λ e. refl; whole = λ h. refl; runs = λ b. refl })

  pub pdu-holds : Leaves (with_pdu segments pdu) (discarded_by gone (packet pdu) done) done
  pdu-holds =
      let kind = kind_of (is_file_data pdu) (data_field pdu) in
      let left = discarded_by gone (packet pdu) done in
      by_test (λ (l : List Segment). Leaves l left done) (is_file_data pdu) _ _ (λ e. data_holds (ap (λ (b : Bool). kind_of b (data_field pdu)) e))
      (λ e. by_test (λ (l : List Segment). Leaves l left done) (is_metadata kind) _ _ (λ m. start-holds (metadata_only kind m)) (λ m. eof-holds (eof-left kind m (not_data pdu e))))

-- any call that is not accepted leaves the segments, and tells of no discarded file
module _ (segments : List Segment) (gone : Bool) (h : Held) (x : Given) (holds : Holds segments gone h.state h.store) where
  abbrev o : Outcome
  o = called_with h x

  refused-holds : (o.called.answer ≡ 0 → ⊥) → (o.called.answer ≡ 19 → ⊥) → Leaves segments (says_discarded gone o.called.notes.fifth) o
  refused-holds p q = rw (refused_changes_nothing h.state h.store h.out x.input x.timer p q) holds

  lost_holds : o.called.answer ≡ 19 → Leaves segments (says_discarded gone o.called.notes.fifth) o
  unfolding settled
  lost_holds e =
      let n = nineteen h.state h.store h.out x.input x.timer e in
      let t = h.state.transfer in
      let runs = takes-busy t.step n.3 in
      let handler = filestore_handler h.state in
      let same : (handled handler t filestore_rejection).file.length ≡ t.file.length = through-handled (LengthOf t.file.length) (length-through t.file.length) handler t filestore_rejection refl in
      rw n.4
      (record {
        reached = t.file.length;
        filled = running segments gone h.state h.store holds runs;
        kept = λ g. same;
        whole = λ g. same;
        runs = λ b. holds.runs runs;
      })

-- an accepted call
accepted-holds : (segments : List Segment) (gone : Bool) (s : State) (store out : List ℕ) (i : Input) (timer : Bool) → Holds segments gone s store → (call_of s store out i timer).called.answer ≡ 0 → Leaves (with_call segments i 0) (discarded_by gone i (call_of s store out i timer)) (call_of s store out i timer)
unfolding call_of poll_call
accepted-holds segments gone s store out poll timer holds e =
    let Polled : Outcome → Type 0 = λ o. Leaves segments (says_discarded gone o.called.notes.fifth) o in
    by_cond Polled (eqb (unfit_refusal s (length store) (length out)) 0) _ _
    (by_test Polled (busy s) _ _ (λ runs. run_holds segments gone s (refused_insert 0 s.transfer) store out timer (running segments gone s store holds runs) (holds.runs runs)) (λ idle. holds))
    holds
accepted-holds segments gone s store out (packet pdu) timer holds e = pdu-holds segments gone s store out pdu timer holds e

not_taken : (segments : List Segment) (i : Input) (answer : ℕ) → eqb answer 0 ≡ false → with_call segments i answer ≡ segments
not_taken segments poll answer e = refl
not_taken segments (packet pdu) answer e = rw e

not_started : (i : Input) (answer : ℕ) → eqb answer 0 ≡ false → starts_file i answer ≡ false
not_started poll answer e = refl
not_started (packet pdu) answer e = rw e

step_leaves : (segments : List Segment) (gone : Bool) (h : Held) (x : Given) (zero lost : Bool) → eqb (called_with h x).called.answer 0 ≡ zero → eqb (called_with h x).called.answer 19 ≡ lost → Holds segments gone h.state h.store → Leaves (with_call segments x.input (called_with h x).called.answer) (discarded_by gone x.input (called_with h x)) (called_with h x)
step_leaves segments gone h x true lost p q holds =
    let e = eqb-true (called_with h x).called.answer 0 p in
    subst (λ (n : ℕ). Leaves (with_call segments x.input n) (discarded_by gone x.input (called_with h x)) (called_with h x)) (sym e)
    (accepted-holds segments gone h.state h.store h.out x.input x.timer holds e)
step_leaves segments gone h x false true p q holds =
    rw (not_taken segments x.input (called_with h x).called.answer p, not_started x.input (called_with h x).called.answer p)
    (lost_holds segments gone h x holds (eqb-true (called_with h x).called.answer 19 q))
step_leaves segments gone h x false false p q holds =
    rw (not_taken segments x.input (called_with h x).called.answer p, not_started x.input (called_with h x).called.answer p)
    (refused-holds segments gone h x holds (eqb-false (called_with h x).called.answer 0 p) (eqb-false (called_with h x).called.answer 19 q))

-- a run
run_keeps : (segments : List Segment) (gone : Bool) (h : Held) (xs : List Given) → Holds segments gone h.state h.store → Holds (segments_after segments h xs) (discarded_after gone h xs) (run_of h xs).state (run_of h xs).store
unfolding run_of segments_after discarded_after
run_keeps segments gone h [] holds = holds
run_keeps segments gone h (x ∷ rest) holds =
    run_keeps (with_call segments x.input (called_with h x).called.answer) (discarded_by gone x.input (called_with h x)) (after (called_with h x)) rest (step_leaves segments gone h x (eqb (called_with h x).called.answer 0) (eqb (called_with h x).called.answer 19) refl refl holds)

-- a fresh receiver has an empty file
fresh_holds : (g : Config) (store : List ℕ) → Holds [] false (fresh_of g) store
unfolding fresh_of idle_after
fresh_holds g store = record { reached = 0; filled = filled_none store; kept = λ e. refl; whole = λ h. refl; runs = λ b. refl }

-- over any run from a fresh receiver the file, unless it was discarded, reaches to the largest end of the accepted segments of its transfer, and
-- each byte of it is the one that the last of them over its offset carried, or 0
pub file_is : (g : Config) (store out : List ℕ) (xs : List Given) → FileIs (run_of (fresh_held g store out) xs) (segments_after [] (fresh_held g store out) xs) (discarded_after false (fresh_held g store out) xs)
file_is g store out xs =
    let h = run_of (fresh_held g store out) xs in
    let segments = segments_after [] (fresh_held g store out) xs in
    let held = run_keeps [] false (fresh_held g store out) xs (fresh_holds g store) in
    let f = held.filled in
    let reaches : held.reached ≡ reach segments = ap (λ (x : Stored). x.len) f.same ∙ received-length f.base segments in
    let file = ap (λ (x : Stored). file_of x.store x.len) f.same in
    record {
      runs = held.runs;
      reaches = λ kept. held.kept kept ∙ reaches;
      bytes = λ i below.
          let same = held.whole (omega (arith, below)) in
          ap (λ (n : ℕ). get_or (file_of h.store n) i 0) same
          ∙ ap (λ (l : List ℕ). get_or l i 0) file
          ∙ received_bytes f.base segments f.fits i (omega (arith, below, same, ap (λ (x : Stored). x.len) f.same));
    }
