-- Demand 3, from the wait on: call by call, what a transfer that waits does is what the demand says.
use Rattle.std.specs.Prelude.{Some, None}
use Rattle.transfer.specs.Transfer.{Note}
use Prim.Native.Nat.{ℕ, ◌+◌, ◌-◌, ◌≤◌, max}
use mathlib.Core.Path.{◌≡◌, refl, sym, ap, ◌∙◌}
use mathlib.Core.Bool.{Bool, true, false, cond, not, ◌&&◌, ◌||◌, true≢false}
use mathlib.Core.List.{List, [], ◌∷◌}
use native.Mathlib.Omega.{arith}
use lib.Dec.{leb, eqb}
use lib.ListN.{length}
use borrow.Author.Tests.{eqb-true, eqb-false, eq-eqb, le-leb, lt-leb}
use Rattle.laws.proofs.Tests.{by_cond, by_test, both_true, neither}
use Rattle.codes.specs.Codes.{no_error, filestore_rejection, check_limit_reached, modular}
use Rattle.filestore.specs.Checksum.{checksum_of}
use Rattle.filestore.specs.File.{file_of}
use Rattle.transfer.specs.Transfer.{is_idle, is_waiting, is_completion, with_file, with_check, idle_after}
use Rattle.transfer.specs.Fault.{cancels, abandons, ignores, handled, reported, declared_of}
use Rattle.transfer.specs.Verify.{verified_of}
use Rattle.steps.specs.Waiting.{limit_of, check_of}
use Rattle.steps.specs.Completion.{Ended, finish_of, finished_note, completion_of}
use Rattle.steps.specs.Busy.{Left, left, waited_of, ended_of, busy_of}
use Rattle.transfer.specs.declared.CheckState.{CheckState}
use Rattle.steps.specs.declared.Faults.{Faults}
use Rattle.steps.specs.declared.Remote.{Remote}
use Rattle.transfer.specs.declared.TransactionStep.TheVariants.{Waiting}
use Rattle.transfer.specs.declared.TransferState.{TransferState}
use Rattle.transfer.specs.declared.Indication.{Indication}
use Rattle.state.specs.State.{settled}
use Rattle.state.specs.declared.State.{State}
use Rattle.inserting.specs.Insert.{inserted, segment_note}
use Rattle.dest.specs.Call.{Input, outcome, called, notes, faults_of, remote_of, ran_of, busy_call, call_of}
use Rattle.inserting.specs.Insert.{Inserted}
use Rattle.promises.proofs.Refused.{refused_changes_nothing, nineteen}
use Rattle.promises.specs.Nineteen.{segment_in, filestore_handler, unfit_call}
use Rattle.demands.specs.Runs.{Held, Given, called_with, after}
use Rattle.demands.specs.Seen.{is_finished, is_end, ends, FinishedWith, FaultBy, file_then}
use Rattle.demands.specs.Demands.{counted, stops, limit_handler, EndsByLimit, Waits}
use Rattle.demands.proofs.Accepted.{Accepted, accepted}

-- the check limit of the transfer's source
abbrev pub limit_for : State → ℕ
limit_for s = (remote_of s.config s.transfer.conf.source).limit

-- a transfer that waits for a sum: k more expiries are counted before the limit, whose fault cancels or abandons
pub record Wait (k sum : ℕ) (s : State) : Type 0 where
  pub step : s.transfer.step ≡ Waiting
  pub kind : s.transfer.checksumtype ≡ modular
  pub waits-for : s.transfer.check.checksum ≡ sum
  pub counts : s.transfer.check.count + k ≡ max 1 (limit_for s)
  pub some : 1 ≤ k
  pub condition : s.transfer.finish.condition ≡ no_error
  pub ending : ignores (limit_handler s.config) ≡ false

-- a call that leaves its transfer waiting before the timer flag is looked at: what is inserted, quiet indications, and the busy steps behind it
pub record Arrived (k sum : ℕ) (s : State) (store out : List ℕ) (i : Input) : Type 0 where
  pub transfer : TransferState
  pub first : Note
  pub second : Note
  pub third : Note
  pub quiet1 : is_end first ≡ false
  pub quiet2 : is_end second ≡ false
  pub quiet3 : is_end third ≡ false
  pub left : List ℕ
  pub same : (timer : Bool) → call_of s store out i timer ≡ busy_call s (inserted 0 transfer first second third) left out timer
  pub source : transfer.conf.source ≡ s.transfer.conf.source
  pub step : transfer.step ≡ Waiting
  pub kind : transfer.checksumtype ≡ modular
  pub waits-for : transfer.check.checksum ≡ sum
  pub counts : transfer.check.count + k ≡ max 1 (limit_for s)
  pub some : 1 ≤ k
  pub condition : transfer.finish.condition ≡ no_error
  pub ending : ignores (limit_handler s.config) ≡ false

-- a poll or a segment that a waiting transfer takes is such a call
pub arrives : {k sum : ℕ} {s : State} {store out : List ℕ} {i : Input} → Wait k sum s → Accepted s store out i → Arrived k sum s store out i
arrives {k} {sum} {s} w a =
    record {
      transfer = with_file s.transfer a.file;
      first = a.note;
      second = None;
      third = None;
      quiet1 = a.quiet;
      quiet2 = refl;
      quiet3 = refl;
      left = a.left;
      same = a.same;
      source = refl;
      step = w.step;
      kind = w.kind;
      waits-for = w.waits-for;
      counts = w.counts;
      some = w.some;
      condition = w.condition;
      ending = w.ending;
    }

pub and_first : (a : Bool) → (a && true) ≡ false → a ≡ false
and_first true e = e
and_first false e = refl

or-true : (a : Bool) → (a || true) ≡ true
or-true true = refl
or-true false = refl

-- the busy steps on a transfer that waits
module _ (f : Faults) (r : Remote) (t : TransferState) (store out : List ℕ) (step : t.step ≡ Waiting) (kind : t.checksumtype ≡ modular) where
  -- without the flag they leave it as it is
  pub rests : busy_of f r t store out false ≡ left (record { state = t; checked = None; finished = None; sent = 0 }) out
  unfolding busy_of waited_of ended_of
  rests = rw (ap is_completion step)

  -- with the flag and the right sum they complete it
  pub completes : eqb (checksum_of (file_of store t.file.length)) t.check.checksum ≡ true → t.finish.condition ≡ no_error → FinishedWith no_error (busy_of f r t store out true).busy.finished
  unfolding busy_of waited_of check_of verified_of ended_of completion_of finished_note finish_of
  completes right condition =
      rw (ap is_waiting step, eq-eqb t.checksumtype modular kind, right) (by_cond (λ (e : Ended). FinishedWith no_error e.completed.finished) t.closure _ _ condition condition)

  -- with the flag and another sum the limit decides
  module _ (wrong : eqb (checksum_of (file_of store t.file.length)) t.check.checksum ≡ false) where
    expires : waited_of f r t store true ≡ limit_of f.checklimit r.limit t
    unfolding waited_of check_of verified_of
    expires = rw (ap is_waiting step, eq-eqb t.checksumtype modular kind, wrong)

    -- reached: its fault is reported, and ends the transfer where its handler does not ignore
    module _ (reached : leb r.limit (t.check.count + 1) ≡ true) where
      declares : busy_of f r t store out true ≡ ended_of r (declared_of f.checklimit t check_limit_reached) out
      unfolding busy_of limit_of
      declares = rw (expires, reached)

      -- as it is seen: with cancel by the Finished indication, with abandon by the report alone
      abbrev Over : Left → Type 0
      Over b =
          ((is_end b.busy.checked || is_end b.busy.finished) ≡ true)
          × FaultBy f.checklimit check_limit_reached b.busy.checked
          × cond (cancels f.checklimit) (FinishedWith check_limit_reached b.busy.finished)
          (((is_finished b.busy.checked || is_finished b.busy.finished) ≡ false) × (b.busy.sent ≡ 0) × (b.out ≡ out))

      over_by : (cancel abandon : Bool) → cancels f.checklimit ≡ cancel → abandons f.checklimit ≡ abandon → not (cancel || abandon) ≡ false → Over (ended_of r (declared_of f.checklimit t check_limit_reached) out)
      unfolding ended_of declared_of handled completion_of finished_note finish_of idle_after
      over_by true abandon p q e =
          let report = is_end (reported f.checklimit t check_limit_reached) in
          let Seen : Ended → Type 0 = λ x. ((report || is_end x.completed.finished) ≡ true) × ((f.checklimit ≡ f.checklimit) × (check_limit_reached ≡ check_limit_reached)) × FinishedWith check_limit_reached x.completed.finished in
          rw p (by_cond Seen t.closure _ _ (or-true report, (refl, refl), refl) (or-true report, (refl, refl), refl))
      over_by false true p q e = rw (p, q) (rw q, (refl, refl), (refl, refl, refl))
      over_by false false p q e = absurd (true≢false e)

      pub limit_over : ignores f.checklimit ≡ false → Over (busy_of f r t store out true)
      limit_over e = rw declares (over_by (cancels f.checklimit) (abandons f.checklimit) refl refl e)

    -- not reached: one more is counted
    pub counts_on : leb r.limit (t.check.count + 1) ≡ false → busy_of f r t store out true ≡ left (record { state = with_check t (record { checksum = t.check.checksum; count = t.check.count + 1 }); checked = None; finished = None; sent = 0 }) out
    unfolding busy_of limit_of ended_of
    counts_on below = rw (expires, below, ap is_completion step)

-- what is seen of an end
finished-ends : (c : ℕ) (i : Note) → FinishedWith c i → is_end i ≡ true
finished-ends c (Some (Indication.Finished i x d r)) e = refl
finished-ends c None e = elim e [ ]
finished-ends c (Some (Indication.Metadata _ _)) e = elim e [ ]
finished-ends c (Some (Indication.Segment _ _ _)) e = elim e [ ]
finished-ends c (Some (Indication.Eof _)) e = elim e [ ]
finished-ends c (Some (Indication.Fault _ _ _ _)) e = elim e [ ]

-- a call that leaves its transfer waiting, in a run
module _ (h : Held) (x : Given) {k sum : ℕ} (a : Arrived k sum h.state h.store h.out x.input) where
  abbrev s : State
  s = h.state

  abbrev f : Faults
  f = faults_of s.config.handlers

  abbrev r : Remote
  r = remote_of s.config s.transfer.conf.source

  abbrev t : TransferState
  t = a.transfer

  abbrev i : Inserted
  i = inserted 0 t a.first a.second a.third

  -- the file that the call's segment leaves
  file_then_lem : file_then h x ≡ file_of a.left t.file.length
  unfolding busy_call ran_of settled
  file_then_lem = rw (a.same false, rests f r t a.left h.out a.step a.kind)

  -- so the same test is made
  tested : (b : Bool) → eqb (checksum_of (file_then h x)) sum ≡ b → eqb (checksum_of (file_of a.left t.file.length)) t.check.checksum ≡ b
  tested b e =
      ap (λ (l : List ℕ). eqb (checksum_of l) t.check.checksum) (sym file_then_lem)
      ∙ ap (λ (n : ℕ). eqb (checksum_of (file_then h x)) n) a.waits-for
      ∙ e

  -- with a transfer that still waits
  waits_on : (n : ℕ) (check : CheckState) → (check.checksum ≡ sum) → (check.count + n ≡ max 1 (limit_for s)) → 1 ≤ n → Wait n sum (settled s (with_check t check))
  unfolding settled
  waits_on n check p q some =
      record {
        step = a.step;
        kind = a.kind;
        waits-for = p;
        counts = q ∙ ap (λ (j : ℕ). max 1 (remote_of s.config j).limit) (sym a.source);
        some = some;
        condition = a.condition;
        ending = a.ending;
      }

  -- without the flag
  unflagged_call : x.timer ≡ false → called_with h x ≡ outcome (called 0 (settled s t) 0 (notes a.first a.second a.third None None)) a.left h.out
  unfolding busy_call ran_of
  unflagged_call e = rw (e, a.same false, rests f r t a.left h.out a.step a.kind)

  pub unflagged-goes : x.timer ≡ false → (ends (called_with h x) ≡ false) × Wait k sum (after (called_with h x)).state
  unflagged-goes e =
      (rw (unflagged_call e, a.quiet1, a.quiet2, a.quiet3), rw (unflagged_call e) (waits_on k t.check a.waits-for a.counts a.some))

  -- with the flag
  module _ (flag : x.timer ≡ true) where
    flagged : called_with h x ≡ busy_call s i a.left h.out true
    flagged = rw flag (a.same true)

    pub good_end : eqb (checksum_of (file_then h x)) sum ≡ true → (ends (called_with h x) ≡ true) × FinishedWith no_error (called_with h x).called.notes.fifth
    unfolding busy_call ran_of
    good_end e =
        let right = tested true e in
        let done = completes f r t a.left h.out a.step a.kind right a.condition in
        let b = (busy_of f r t a.left h.out true).busy in
        (rw (flagged, a.quiet1, a.quiet2, a.quiet3, finished-ends no_error b.finished done) (or-true (is_end b.checked)), rw flagged done)

    module _ (e : eqb (checksum_of (file_then h x)) sum ≡ false) where
      wrong : eqb (checksum_of (file_of a.left t.file.length)) t.check.checksum ≡ false
      wrong = tested false e

      -- what was told before the flag is no Finished indication
      none : (i : Note) → is_end i ≡ false → is_finished i ≡ false
      none i q = (neither (is_finished i) _ q).0

      pub limit_end : k ≡ 1 → (ends (called_with h x) ≡ true) × EndsByLimit (limit_handler s.config) h.out (called_with h x)
      unfolding busy_call ran_of faults_of
      limit_end one =
          let reached = le-leb r.limit (t.check.count + 1) (omega (arith, a.counts, one)) in
          let over = limit_over f r t a.left h.out a.step a.kind wrong reached a.ending in
          (rw (flagged, a.quiet1, a.quiet2, a.quiet3) over.0, rw (flagged, none a.first a.quiet1, none a.second a.quiet2, none a.third a.quiet3) (over.1, over.2))

      pub goes_on : (k ≡ 1 → ⊥) → (ends (called_with h x) ≡ false) × Wait (k - 1) sum (after (called_with h x)).state
      unfolding busy_call ran_of
      goes_on more =
          let below = lt-leb r.limit (t.check.count + 1) (omega (arith, a.counts, a.some, more)) in
          let same = flagged ∙ ap (ran_of s i a.left) (counts_on f r t a.left h.out a.step a.kind wrong below) in
          (rw (same, a.quiet1, a.quiet2, a.quiet3), rw same (waits_on (k - 1) (record { checksum = t.check.checksum; count = t.check.count + 1 }) a.waits-for (omega (arith, a.counts, a.some, more)) (omega (arith, a.some, more))))

-- any call on a transfer that waits
module _ (h : Held) (x : Given) {k sum : ℕ} (w : Wait k sum h.state) where
  abbrev now : State
  now = h.state

  taken : (called_with h x).called.answer ≡ 0 → Arrived k sum now h.store h.out x.input
  taken e = arrives w (accepted now h.store h.out w.step x.input x.timer e)

  -- a call that leaves the state as it was
  stays : after (called_with h x) ≡ h → Wait k sum (after (called_with h x)).state
  stays e = rw e w

  -- a refusal other than 19 changes nothing, and ends nothing
  refused_quiet : ((called_with h x).called.answer ≡ 0 → ⊥) → ((called_with h x).called.answer ≡ 19 → ⊥) → ends (called_with h x) ≡ false
  refused_quiet p q = rw (refused_changes_nothing now h.store h.out x.input x.timer p q)

  refused-goes : ((called_with h x).called.answer ≡ 0 → ⊥) → ((called_with h x).called.answer ≡ 19 → ⊥) → (ends (called_with h x) ≡ false) × Wait k sum (after (called_with h x)).state
  refused-goes p q =
      (refused_quiet p q, stays (ap after (refused_changes_nothing now h.store h.out x.input x.timer p q)))

  -- nor does a 19 whose fault is ignored
  module _ (answer : (called_with h x).called.answer ≡ 19) where
    abbrev handler : ℕ
    handler = filestore_handler now

    unfit : (pdu : List ℕ) × (called_with h x ≡ unfit_call now h.store h.out pdu)
    unfit = let n = nineteen now h.store h.out x.input x.timer answer in (n.0, n.4)

    -- the transfer stays as it is
    ignored : (cancel abandon : Bool) → cancels handler ≡ cancel → abandons handler ≡ abandon → (cancel || abandon) ≡ false → (settled now (handled handler now.transfer filestore_rejection) ≡ now) × (abandons handler ≡ false)
    unfolding settled handled
    ignored true abandon p q e = absurd (true≢false e)
    ignored false true p q e = absurd (true≢false e)
    ignored false false p q e = (rw (p, q, ap is_idle w.step), q)

    note_quiet : (o n : ℕ) → is_end (segment_note now.config.segmentrecv now.transfer o n) ≡ false
    note_quiet o n = by_cond (λ (j : Note). is_end j ≡ false) now.config.segmentrecv _ _ refl refl

    nineteen-goes : stops (called_with h x) ≡ false → (ends (called_with h x) ≡ false) × Wait k sum (after (called_with h x)).state
    nineteen-goes e =
        let u = unfit in
        let kept = ignored (cancels handler) (abandons handler) refl refl (rw u.1 at e) in
        (rw (u.1, note_quiet (segment_in u.0).offset (length (segment_in u.0).bytes), kept.1), rw (u.1, kept.0) w)

  -- every call that is not counted
  uncounted_by : (zero lost : Bool) → eqb (called_with h x).called.answer 0 ≡ zero → eqb (called_with h x).called.answer 19 ≡ lost → (x.timer && zero) ≡ false → stops (called_with h x) ≡ false → (ends (called_with h x) ≡ false) × Wait k sum (after (called_with h x)).state
  uncounted_by true lost p q e g =
      unflagged-goes h x (taken (eqb-true _ 0 p)) (and_first x.timer e)
  uncounted_by false true p q e g = nineteen-goes (eqb-true _ 19 q) g
  uncounted_by false false p q e g = refused-goes (eqb-false _ 0 p) (eqb-false _ 19 q)

  uncounted_goes : counted x (called_with h x) ≡ false → stops (called_with h x) ≡ false → (ends (called_with h x) ≡ false) × Wait k sum (after (called_with h x)).state
  uncounted_goes e g = uncounted_by (eqb (called_with h x).called.answer 0) (eqb (called_with h x).called.answer 19) refl refl e g

-- a counted call on a transfer that waits, and the run behind it
module _ (h : Held) (x : Given) {k sum : ℕ} (a : Arrived k sum h.state h.store h.out x.input) (flag : x.timer ≡ true) where
  pub counted_turn : (rest : List Given) → ((n : ℕ) → Wait n sum (after (called_with h x)).state → Waits n sum (after (called_with h x)) rest) → cond (eqb (checksum_of (file_then h x)) sum) ((ends (called_with h x) ≡ true) × FinishedWith no_error (called_with h x).called.notes.fifth) (cond (eqb k 1) ((ends (called_with h x) ≡ true) × EndsByLimit (limit_handler h.state.config) h.out (called_with h x)) ((ends (called_with h x) ≡ false) × Waits (k - 1) sum (after (called_with h x)) rest))
  counted_turn rest on =
      let Claim : Type 0 → Type 0 = λ c. c in
      by_test Claim (eqb (checksum_of (file_then h x)) sum) _ _ (λ right. good_end h x a flag right)
      (λ wrong. by_test Claim (eqb k 1) _ _ (λ last. limit_end h x a flag wrong (eqb-true k 1 last))
      (λ more. let next = goes_on h x a flag wrong (eqb-false k 1 more) in (next.0, on (k - 1) next.1)))

-- demand 3, from the wait on
pub waits : (k sum : ℕ) (h : Held) (xs : List Given) → Wait k sum h.state → Waits k sum h xs
unfolding Waits
waits k sum h [] w = tt
waits k sum h (x ∷ rest) w =
    let o = called_with h x in
    let Claim : Type 0 → Type 0 = λ c. c in
    by_test Claim (stops o) _ _ (λ e. tt)
    (λ g. by_test Claim (counted x o) _ _
    (λ e. let both = both_true x.timer _ e in counted_turn h x (taken h x w (eqb-true _ 0 both.1)) both.0 rest (λ n. waits n sum (after o) rest))
    (λ e. let on = uncounted_goes h x w e g in (on.0, waits k sum (after o) rest on.1)))
