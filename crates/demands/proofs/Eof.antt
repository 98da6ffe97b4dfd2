-- From a fresh receiver, an accepted EOF that fails its sum and starts the wait, and what follows (demand 3).
use Rattle.std.specs.Prelude.{None}
use Rattle.transfer.specs.Transfer.{Note}
use Prim.Native.Nat.{ℕ, max}
use mathlib.Core.Path.{◌≡◌, refl, sym, ap, subst, ◌∙◌}
use mathlib.Core.Bool.{Bool, true, false, ◌&&◌, ◌||◌}
use mathlib.Core.List.{List, [], ◌∷◌}
use native.Mathlib.Omega.{arith}
use lib.Dec.{ltb, eqb}
use lib.ListN.{length}
use borrow.Author.Tests.{eqb-true, eq-eqb, not-true, not-false}
use Rattle.laws.specs.First.{first_of}
use Rattle.laws.proofs.Order.{clear}
use Rattle.laws.proofs.Tests.{by_cond, by_test, both_true, neither}
use Rattle.codes.specs.Codes as codes
use Rattle.header.specs.Header.{conf_of, fields_of, data_field}
use Rattle.header.specs.declared.CommonPduConfig.{CommonPduConfig}
use Rattle.packet_info.specs.Routing.{is_file_data, kind_of}
use Rattle.packet_info.specs.declared.Target.{Target}
use Rattle.packet_info.specs.declared.Target.TheVariants.{FileData, Metadata, Eof}
use Rattle.bodies.specs.Eof as eof
use Rattle.bodies.specs.declared.eof.EofPdu.{EofPdu}
use Rattle.filestore.specs.Checksum.{checksum_of}
use Rattle.filestore.specs.File.{file_of}
use Rattle.config.specs.Config.{handler_of}
use Rattle.config.specs.declared.Config.{Config}
use Rattle.transfer.specs.Transfer.{is_receiving}
use Rattle.transfer.specs.Fault.{cancels, abandons, ignores, reported}
use Rattle.transfer.specs.Verify.{verified_of, unsupported_of}
use Rattle.steps.specs.Eof.{waiting_for, failed_of, eof_by, eof_verified, eof_handled_of}
use Rattle.transfer.specs.declared.TransferState.{TransferState}
use Rattle.steps.specs.declared.Faults.{Faults}
use Rattle.steps.specs.declared.EofHandled.{EofHandled}
use Rattle.transfer.specs.declared.Verdict.{Verdict}
use Rattle.transfer.specs.declared.Verified.{Verified}
use Rattle.state.specs.State.{fresh_of}
use Rattle.state.specs.declared.State.{State}
use Rattle.inserting.specs.Insert.{Placed, inserted, other, place_order, body_refusal, segment_placed, segment_taken, file_data_placed, eof_note, eof_call_order, eof_call_refusal, eof_taken, eof_inserted}
use Rattle.dest.specs.Metadata.{metadata_refusal}
use Rattle.dest.specs.Call.{packet, Outcome, faults_of, remote_of, ran_of, busy_call, refused_of, after_insert, file_data_call, eof_call, start_called, started_call, target_call, entry_refusal, insert_call, call_of}
use Rattle.inserting.specs.Insert.{Inserted}
use Rattle.dest.specs.Call.{Called}
use Rattle.promises.proofs.Config.{config_kept}
use Rattle.demands.specs.Runs.{Held, Given, fresh_held, called_with, after, run_of}
use Rattle.demands.specs.Seen.{is_end, SumIgnored, checksum_in}
use Rattle.demands.specs.Demands.{StartsWait, check_limit, limit_handler, limit_ends, counted, stops, Waits}
use Rattle.demands.proofs.Accepted.{entered}
use Rattle.demands.proofs.Receiving.{Clear, fresh-clear}
use Rattle.demands.proofs.Waiting.{and_first, Arrived, limit_for, unflagged-goes, counted_turn, waits}

-- what an EOF leaves that reports an ignored fault 5: it waits for the EOF's sum, of a file whose checksum is a modular one
pub record Started (t : TransferState) (sum : ℕ) (e : EofHandled) : Type 0 where
  pub waits-now : e.state ≡ waiting_for t sum
  pub modular : t.checksumtype ≡ codes.modular
  pub size-quiet : is_end e.sizefault ≡ false
  pub sum-quiet : is_end e.sumfault ≡ false

abbrev Starts : TransferState → ℕ → EofHandled → Type 0
Starts t sum e = is_end e.sizefault ≡ false → SumIgnored e.sumfault → Started t sum e

failed_starts : (h : ℕ) (t : TransferState) (sum : ℕ) (size : Note) → t.checksumtype ≡ codes.modular → Starts t sum (failed_of h t sum size)
unfolding failed_of
failed_starts h t sum size modular quiet w =
    record { waits-now = rw w.1; modular = modular; size-quiet = quiet; sum-quiet = (neither (cancels h) (abandons h) (not-true (cancels h || abandons h) w.1)).1 }

-- by the verdict: only a failed sum reports fault 5
abbrev By : ℕ → TransferState → ℕ → Note → Verified → Type 0
By h t sum size v = Starts t sum (eof_by h sum size v.verdict v)

verified_starts : (f : Faults) (t : TransferState) (file : List ℕ) (sum : ℕ) (size : Note) → Starts t sum (eof_verified f t file sum size)
unfolding eof_verified verified_of unsupported_of
verified_starts f t file sum size =
    by_test (By f.checksum t sum size) (eqb t.checksumtype codes.modular) _ _
    (λ modular. by_cond (By f.checksum t sum size) (eqb (checksum_of file) sum) _ _ (λ quiet w. absurd w) (failed_starts f.checksum t sum size (eqb-true t.checksumtype codes.modular modular)))
    (λ e. by_cond (By f.checksum t sum size) (eqb t.checksumtype codes.null_checksum) _ _ (λ quiet w. absurd w)
    (by_cond (By f.checksum t sum size) (abandons f.unsupported) _ _ (λ quiet w. absurd (omega (arith, w.0))) (λ quiet w. absurd (omega (arith, w.0)))))

-- the report of a size fault goes through
size_by : (h sum : ℕ) (size : Note) (x : Verdict) (v : Verified) → (eof_by h sum size x v).sizefault ≡ size
unfolding failed_of
size_by h sum size Verdict.Good v = refl
size_by h sum size Verdict.Bad v = refl
size_by h sum size Verdict.Ended v = refl

quiet_starts : (f : Faults) (t : TransferState) (file : List ℕ) (sum : ℕ) (size : Note) → is_end size ≡ false → SumIgnored (eof_verified f t file sum size).sumfault → Started t sum (eof_verified f t file sum size)
unfolding eof_verified
quiet_starts f t file sum size quiet w =
    verified_starts f t file sum size (ap is_end (size_by f.checksum sum size (verified_of f.unsupported t file sum).verdict (verified_of f.unsupported t file sum)) ∙ quiet) w

-- an EOF
eof_starts : (f : Faults) (t : TransferState) (file : List ℕ) (e : EofPdu) → SumIgnored (eof_handled_of f t file e).sumfault → Started t e.checksum (eof_handled_of f t file e)
unfolding eof_handled_of
eof_starts f t file e =
    let Claim : EofHandled → Type 0 = λ x. SumIgnored x.sumfault → Started t e.checksum x in
    let h = f.filesize in
    by_cond Claim (ltb e.size t.file.progress) _ _
    (by_test Claim (ignores h) _ _
    (λ i. quiet_starts f t file e.checksum (reported h t codes.file_size_error) (neither (cancels h) (abandons h) (not-true (cancels h || abandons h) i)).1)
    (λ i w. absurd w))
    (quiet_starts f t file e.checksum None refl)

-- a call with file data or a Metadata reports no fault 5
data_third : (h : ℕ) (notify : Bool) (t : TransferState) (store : List ℕ) (c : CommonPduConfig) (m : Bool) (d : List ℕ) → (file_data_placed h notify t store c m d).inserted.third ≡ None
unfolding file_data_placed segment_placed segment_taken
data_third h notify t store c m d =
    by_cond (λ (p : Placed). p.inserted.third ≡ None) (eqb (body_refusal t c m d) 0) _ _ refl refl

module _ (s : State) (out : List ℕ) (timer : Bool) where
  after_third : (i : Inserted) (store : List ℕ) → i.third ≡ None → (after_insert s i store out timer).called.notes.third ≡ None
  unfolding after_insert busy_call ran_of refused_of
  after_third i store e =
      by_cond (λ (o : Outcome). o.called.notes.third ≡ None) (eqb i.answer 0) _ _ e
      (by_cond (λ (c : Called). c.notes.third ≡ None) (eqb i.answer 19) _ _ refl refl)

  data_call_third : (store : List ℕ) (c : CommonPduConfig) (m : Bool) (d : List ℕ) → (file_data_call s store out c m d timer).called.notes.third ≡ None
  unfolding file_data_call
  data_call_third store c m d =
      let p = file_data_placed (handler_of s.config.handlers codes.filestore_rejection) s.config.segmentrecv s.transfer store c m d in
      after_third p.inserted p.store (data_third (handler_of s.config.handlers codes.filestore_rejection) s.config.segmentrecv s.transfer store c m d)

  start_third : (c : CommonPduConfig) (d : List ℕ) → (started_call s c d).notes.third ≡ None
  unfolding started_call start_called
  start_third c d = by_cond (λ (x : Called). x.notes.third ≡ None) (eqb (metadata_refusal s c d) 0) _ _ refl refl

-- the EOF's call
module _ (s : State) (store out pdu : List ℕ) (timer : Bool) (answer : (call_of s store out (packet pdu) timer).called.answer ≡ 0) where
  abbrev pub conf : CommonPduConfig
  conf = conf_of pdu

  abbrev pub field : List ℕ
  field = data_field pdu

  abbrev pub kind : Target
  kind = kind_of (is_file_data pdu) field

  abbrev pub handling : EofHandled
  handling = eof_handled_of (faults_of s.config.handlers) s.transfer (file_of store s.transfer.file.length) (eof.fields_of field conf.largefile)

  -- it is the call of its kind
  pub goes : (flag : Bool) → call_of s store out (packet pdu) flag ≡ target_call kind s store out conf (fields_of pdu).segmentmetadata field flag
  unfolding call_of insert_call
  goes flag = rw (eq-eqb (entry_refusal s (length store) (length out) pdu) 0 (entered s store out pdu timer answer).0)

  -- so it is an EOF
  is_eof_lem : (k : Target) → kind ≡ k → SumIgnored (call_of s store out (packet pdu) timer).called.notes.third → kind ≡ Eof
  is_eof_lem FileData e w =
      absurd (rw (goes timer, e, data_call_third s out timer store conf (fields_of pdu).segmentmetadata field) at w)
  is_eof_lem Metadata e w = absurd (rw (goes timer, e, start_third s out timer conf field) at w)
  is_eof_lem Eof e w = e

  -- which is not refused, and whose transfer is the one that runs
  module _ (eof-kind : kind ≡ Eof) where
    order_clear : first_of (eof_call_order s.transfer conf field) ≡ 0
    order_clear = rw eof-kind at (entered s store out pdu timer answer).1

    pub eof_call_lem : (flag : Bool) → call_of s store out (packet pdu) flag ≡ busy_call s (eof_taken s.config.eofrecv s.transfer handling) store out flag
    unfolding eof_call after_insert eof_inserted eof_taken eof_call_refusal
    eof_call_lem flag = rw (goes flag, eof-kind, eq-eqb (first_of (eof_call_order s.transfer conf field)) 0 order_clear)

    pub receives : is_receiving s.transfer.step ≡ true
    unfolding eof_call_order place_order eof.eof_order
    receives = not-false (is_receiving s.transfer.step) (clear (eof_call_order s.transfer conf field) tt order_clear).0

    same_source : conf.source ≡ s.transfer.conf.source
    unfolding eof_call_order place_order other eof.eof_order
    same_source =
        let mine = not-false (eqb conf.source s.transfer.conf.source && eqb conf.seqnum s.transfer.conf.seqnum) (clear (eof_call_order s.transfer conf field) tt order_clear).1.0 in
        eqb-true conf.source s.transfer.conf.source (both_true (eqb conf.source s.transfer.conf.source) _ mine).0

    -- so the call leaves the transfer waiting
    third_is : (flag : Bool) → (call_of s store out (packet pdu) flag).called.notes.third ≡ handling.sumfault
    unfolding busy_call ran_of eof_taken
    third_is flag = rw (eof_call_lem flag)

    arrives_waiting : Clear s.transfer → ignores (limit_handler s.config) ≡ false → SumIgnored (call_of s store out (packet pdu) timer).called.notes.third → Arrived (max 1 (limit_for s)) (checksum_in pdu) s store out (packet pdu)
    unfolding eof_taken
    arrives_waiting quiet ending w =
        let started = eof_starts (faults_of s.config.handlers) s.transfer (file_of store s.transfer.file.length) (eof.fields_of field conf.largefile) (rw (third_is timer) at w) in
        record {
          transfer = waiting_for s.transfer (checksum_in pdu);
          first = eof_note s.config.eofrecv s.transfer;
          second = handling.sizefault;
          third = handling.sumfault;
          quiet1 = by_cond (λ (j : Note). is_end j ≡ false) s.config.eofrecv _ _ refl refl;
          quiet2 = started.size-quiet;
          quiet3 = started.sum-quiet;
          left = store;
          same = λ flag. eof_call_lem flag ∙ ap (λ (x : TransferState). busy_call s (inserted 0 x (eof_note s.config.eofrecv s.transfer) handling.sizefault handling.sumfault) store out flag) started.waits-now;
          source = refl;
          step = refl;
          kind = started.modular;
          waits-for = refl;
          counts = omega arith;
          some = omega arith;
          condition = quiet receives;
          ending = ending;
        }

-- the configuration stays over a run
run_config : (h : Held) (xs : List Given) → (run_of h xs).state.config ≡ h.state.config
unfolding run_of
run_config h [] = refl
run_config h (x ∷ rest) =
    run_config (after (called_with h x)) rest ∙ config_kept h.state h.store h.out x.input x.timer

-- the demand
module _ (g : Config) (store out : List ℕ) (before : List Given) (pdu : List ℕ) (timer : Bool) where
  -- the receiver behind any run from a fresh one, and the call with the EOF
  abbrev pub held : Held
  held = run_of (fresh_held g store out) before

  abbrev pub eof_given : Given
  eof_given = record { input = packet pdu; timer = timer }

  abbrev pub eof_outcome : Outcome
  eof_outcome = called_with held eof_given

  same_config : held.state.config ≡ g
  unfolding fresh_of
  same_config = run_config (fresh_held g store out) before

  -- an accepted EOF fails its sum and starts the wait, and the limit fault cancels or abandons: then the run from the EOF's own call on is as the
  -- demand says, for max(1, L) counted calls
  pub waits_from_eof : (rest : List Given) → StartsWait eof_outcome → limit_ends g ≡ true → Waits (max 1 (check_limit g pdu)) (checksum_in pdu) held (eof_given ∷ rest)
  unfolding Waits
  waits_from_eof rest starts ending =
      let answer = starts.0 in
      let w = starts.1 in
      let s = held.state in
      let eof-kind = is_eof_lem s held.store held.out pdu timer answer (kind_of (is_file_data pdu) (data_field pdu)) refl w in
      let limit : ignores (limit_handler s.config) ≡ false = rw (same_config, ending) in
      let a = arrives_waiting s held.store held.out pdu timer answer eof-kind (fresh-clear g store out before) limit w in
      let same-limit : max 1 (limit_for s) ≡ max 1 (check_limit g pdu) =
      ap (λ (c : Config). max 1 (remote_of c s.transfer.conf.source).limit) same_config
      ∙ ap (λ (j : ℕ). max 1 (remote_of g j).limit) (sym (same_source s held.store held.out pdu timer answer eof-kind)) in
      let b : Arrived (max 1 (check_limit g pdu)) (checksum_in pdu) s held.store held.out (packet pdu) = subst (λ (k : ℕ). Arrived k (checksum_in pdu) s held.store held.out (packet pdu)) same-limit a in
      let Claim : Type 0 → Type 0 = λ c. c in
      let sum = checksum_in pdu in
      by_test Claim (stops eof_outcome) _ _ (λ e. tt)
      (λ q. by_test Claim (counted eof_given eof_outcome) _ _
      (λ e. counted_turn held eof_given b (both_true timer _ e).0 rest (λ n. waits n sum (after eof_outcome) rest))
      (λ e. let on = unflagged-goes held eof_given b (and_first timer (ap (λ (z : Bool). timer && z) (sym (eq-eqb _ 0 answer)) ∙ e)) in (on.0, waits (max 1 (check_limit g pdu)) sum (after eof_outcome) rest on.1)))
