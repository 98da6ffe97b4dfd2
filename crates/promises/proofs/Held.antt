-- What the steps of a call keep of the transfer: it goes on with its header, its length within a store's limit, its checksum type and
-- condition within four bits and its count below that of its source's entry; or it is over, with a record that fits. One lemma for each
-- layer of the definition.
use Rattle.transfer.specs.Transfer.{Note}
use Prim.Native.Nat.{ℕ, ◌+◌, ◌<◌, ◌≤◌, max}
use mathlib.Core.Path.{◌≡◌, refl}
use mathlib.Core.Bool.{Bool, true, false, ◌&&◌, false≢true}
use mathlib.Core.List.{List}
use native.Mathlib.Omega.{arith}
use lib.Dec.{leb, ltb, eqb, lit≤}
use lib.ListN.{length}
use borrow.Author.Tests.{leb-true, leb-false}
use Rattle.laws.proofs.Tests.{by_test, both_true, by_cond}
use Rattle.codes.specs.Codes.{filestore_rejection, file_checksum_failure, file_size_error, check_limit_reached, unsupported_checksum_type, is_code, modular, null_checksum}
use Rattle.header.specs.declared.CommonPduConfig.{CommonPduConfig}
use Rattle.bodies.specs.declared.eof.EofPdu.{EofPdu}
use Rattle.filestore.specs.File.{store_limit, segment_fits, with_segment, stored_of, Stored}
use Rattle.filestore.specs.Checksum.{checksum_of}
use Rattle.filestore.proofs.Laws.{length-within}
use Rattle.config.specs.Config.{fits_width}
use Rattle.transfer.specs.Transfer.{is_idle, is_waiting, is_completion, idle_after}
use Rattle.transfer.specs.Fault.{cancels, abandons, ignores, cancelled_by, handled, declared_of}
use Rattle.transfer.specs.Verify.{unsupported_of, verified_of}
use Rattle.transfer.specs.Segment.{segment_by, segmented_of, segment_refusal, Kept}
use Rattle.steps.specs.Eof.{failed_of, eof_by, eof_verified, eof_handled_of}
use Rattle.steps.specs.Waiting.{limit_of, check_by, check_of}
use Rattle.steps.specs.Completion.{discards, kept_length, completion_of, Ended}
use Rattle.steps.specs.Busy.{waited_of, ended_of, busy_of, Left}
use Rattle.transfer.specs.declared.TransactionStep.{TransactionStep}
use Rattle.transfer.specs.declared.TransactionStep.TheVariants.{Idle, Receiving, Waiting, Completion}
use Rattle.transfer.specs.declared.TransferState.{TransferState}
use Rattle.steps.specs.declared.Faults.{Faults}
use Rattle.steps.specs.declared.Remote.{Remote}
use Rattle.transfer.specs.declared.Verdict.{Verdict}
use Rattle.transfer.specs.declared.Verified.{Verified}
use Rattle.transfer.specs.declared.Declared.{Declared}
use Rattle.steps.specs.declared.EofHandled.{EofHandled}
use Rattle.state.specs.State.{busy}
use Rattle.state.specs.Unfit.{conf_fits, codes_fit}
use Rattle.state.specs.declared.State.{State}
use Rattle.dest.specs.Call.{remote_of}

-- the remote entity of the state's transfer
abbrev pub remote_for : State → Remote
remote_for s = remote_of s.config s.transfer.conf.source

-- the transfer of s goes on, with that header, checksum type, condition, file length and count
pub record Fine (s : State) (conf : CommonPduConfig) (checksumtype condition len count : ℕ) : Type 0 where
  pub runs : busy s ≡ true
  pub same : conf ≡ s.transfer.conf
  pub codes : codes_fit checksumtype condition ≡ true
  pub short : len ≤ store_limit
  pub below : count < max 1 (remote_for s).limit

abbrev pub On : State → TransferState → Type 0
On s t = Fine s t.conf t.checksumtype t.finish.condition t.file.length t.check.count

-- it is over
pub record Over (t : TransferState) : Type 0 where
  pub idle : is_idle t.step ≡ true
  pub fits : conf_fits t.conf ≡ true
  pub codes : codes_fit t.checksumtype t.finish.condition ≡ true
  pub short : t.file.length ≤ store_limit

-- one of the two
pub data Held (s : State) (t : TransferState) : Type 0 where
  on : On s t → Held s t
  over : Over t → Held s t

-- the record that completion and abandonment leave
pub idle_over : (len : ℕ) → len ≤ store_limit → Over (idle_after len)
unfolding idle_after conf_fits fits_width
idle_over len h = record { idle = refl; fits = refl; codes = refl; short = h }

-- an idle step is no other
idle_waits : (x : TransactionStep) → is_idle x ≡ true → is_waiting x ≡ true → ⊥
idle_waits Idle p q = false≢true q
idle_waits Receiving p q = false≢true p
idle_waits Waiting p q = false≢true p
idle_waits Completion p q = false≢true p

-- a segment leaves the file within the store's limit
stored_short : (store : List ℕ) (len o : ℕ) (d : List ℕ) → length store ≤ store_limit → len ≤ store_limit → (stored_of store len o d).len ≤ store_limit
unfolding stored_of with_segment
stored_short store len o d h k =
    let Short : Stored → Type 0 = λ f. f.len ≤ store_limit in
    by_test Short (segment_fits (length store) o (length d) && leb len (length store)) _ _
    (λ e.
    let p = both_true (segment_fits (length store) o (length d)) (leb len (length store)) e in
    omega (arith, length-within len o (length d) (length store) p.0 (leb-true len (length store) p.1)))
    (λ e. k)

module _ (s : State) where
  held_short : (t : TransferState) → Held s t → t.file.length ≤ store_limit
  held_short t (on p) = p.short
  held_short t (over p) = p.short

  -- cancelled with a condition of four bits
  cancelled_on : (t : TransferState) (c : ℕ) → is_code c ≡ true → On s t → On s (cancelled_by t c)
  cancelled_on t c e p =
      record {
        runs = p.runs;
        same = p.same;
        codes = rw ((both_true (is_code t.checksumtype) _ p.codes).0, e);
        short = p.short;
        below = p.below;
      }

  -- a fault's handler: cancel and ignore go on, abandon ends
  handled-held : (h : ℕ) (t : TransferState) (c : ℕ) → is_code c ≡ true → On s t → Held s (handled h t c)
  unfolding handled
  handled-held h t c e p =
      by_cond (Held s) (cancels h) _ _ (on (cancelled_on t c e p)) (by_cond (Held s) (abandons h) _ _ (over (idle_over t.file.length p.short)) (on p))

  handled_on : (h : ℕ) (t : TransferState) (c : ℕ) → is_code c ≡ true → abandons h ≡ false → On s t → On s (handled h t c)
  unfolding handled
  handled_on h t c e keeps p = by_cond (On s) (cancels h) _ _ (cancelled_on t c e p) (rw keeps p)

  -- a segment
  abbrev Segment : Kept → Type 0
  Segment k = Held s k.segmented.state

  segment_by_lem : (n h : ℕ) (t : TransferState) (store : List ℕ) (o : ℕ) (d : List ℕ) → length store ≤ store_limit → On s t → Segment (segment_by n h t store o d)
  unfolding segment_by
  segment_by_lem n h t store o d k p =
      by_cond Segment (eqb n 0) _ _
      (on (record { runs = p.runs; same = p.same; codes = p.codes; short = stored_short store t.file.length o d k p.short; below = p.below }))
      (by_cond Segment (eqb n 19) _ _ (handled-held h t filestore_rejection refl p) (on p))

  pub segment-held : (h : ℕ) (t : TransferState) (store : List ℕ) (o : ℕ) (d : List ℕ) → length store ≤ store_limit → On s t → Held s (segmented_of h t store o d).segmented.state
  unfolding segmented_of
  segment-held h t store o d = segment_by_lem (segment_refusal t (length store) o (length d)) h t store o d

  -- verification: the transfer goes on unless the verdict says that the call's work has ended
  abbrev After : Verdict → TransferState → Type 0
  After Verdict.Good t = On s t
  After Verdict.Bad t = On s t
  After Verdict.Ended t = Held s t

  abbrev Verifies : Verified → Type 0
  Verifies v = After v.verdict v.state

  unsupported_held : (h : ℕ) (t : TransferState) → On s t → Verifies (unsupported_of h t)
  unfolding unsupported_of
  unsupported_held h t p = by_test Verifies (abandons h) _ _ (λ e. handled-held h t unsupported_checksum_type refl p) (λ e. handled_on h t unsupported_checksum_type refl e p)

  verified-held : (h : ℕ) (t : TransferState) (file : List ℕ) (sum : ℕ) → On s t → Verifies (verified_of h t file sum)
  unfolding verified_of
  verified-held h t file sum p =
      by_cond Verifies (eqb t.checksumtype modular) _ _ (by_cond Verifies (eqb (checksum_of file) sum) _ _ p p)
      (by_cond Verifies (eqb t.checksumtype null_checksum) _ _ p (unsupported_held h t p))

  -- an EOF
  failed_held : (h : ℕ) (t : TransferState) (sum : ℕ) (size : Note) → On s t → Held s (failed_of h t sum size).state
  unfolding failed_of
  failed_held h t sum size p =
      by_cond (Held s) (ignores h) _ _
      (on (record { runs = p.runs; same = p.same; codes = p.codes; short = p.short; below = omega (arith, p.below) }))
      (handled-held h t file_checksum_failure refl p)

  eof_by_lem : (h sum : ℕ) (size : Note) (d : Verdict) (v : Verified) → After d v.state → Held s (eof_by h sum size d v).state
  eof_by_lem h sum size Verdict.Good v p = on p
  eof_by_lem h sum size Verdict.Bad v p = failed_held h v.state sum size p
  eof_by_lem h sum size Verdict.Ended v p = p

  eof-verified : (f : Faults) (t : TransferState) (file : List ℕ) (sum : ℕ) (size : Note) → On s t → Held s (eof_verified f t file sum size).state
  unfolding eof_verified
  eof-verified f t file sum size p =
      let v = verified_of f.unsupported t file sum in
      eof_by_lem f.checksum sum size v.verdict v (verified-held f.unsupported t file sum p)

  pub eof-held : (f : Faults) (t : TransferState) (file : List ℕ) (e : EofPdu) → On s t → Held s (eof_handled_of f t file e).state
  unfolding eof_handled_of
  eof-held f t file e p =
      let Holds : EofHandled → Type 0 = λ r. Held s r.state in
      by_cond Holds (ltb e.size t.file.progress) _ _
      (by_cond Holds (ignores f.filesize) _ _ (eof-verified f t file e.checksum _ p) (handled-held f.filesize t file_size_error refl p))
      (eof-verified f t file e.checksum _ p)

  -- the waiting step: the count grows only where it stays below the limit
  abbrev Declares : Declared → Type 0
  Declares d = Held s d.state

  limit_held : (h : ℕ) (t : TransferState) → On s t → Declares (limit_of h (remote_for s).limit t)
  unfolding limit_of declared_of
  limit_held h t p =
      by_test Declares (leb (remote_for s).limit (t.check.count + 1)) _ _ (λ e. handled-held h t check_limit_reached refl p)
      (λ e.
      let k = leb-false (remote_for s).limit (t.check.count + 1) e in
      on (record { runs = p.runs; same = p.same; codes = p.codes; short = p.short; below = omega arith }))

  check_by_lem : (h : ℕ) (d : Verdict) (v : Verified) → After d v.state → Declares (check_by h (remote_for s).limit d v)
  check_by_lem h Verdict.Good v p = on p
  check_by_lem h Verdict.Bad v p = limit_held h v.state p
  check_by_lem h Verdict.Ended v p = p

  check-held : (f : Faults) (t : TransferState) (file : List ℕ) → On s t → Declares (check_of f (remote_for s).limit t file)
  unfolding check_of
  check-held f t file p =
      let v = verified_of f.unsupported t file t.check.checksum in
      check_by_lem f.checklimit v.verdict v (verified-held f.unsupported t file t.check.checksum p)

  pub waited_held : (f : Faults) (t : TransferState) (store : List ℕ) (timer : Bool) → Held s t → Declares (waited_of f (remote_for s) t store timer)
  unfolding waited_of
  waited_held f t store timer (on p) = by_cond Declares (timer && is_waiting t.step) _ _ (check-held f t _ p) (on p)
  waited_held f t store timer (over p) =
      by_test Declares (timer && is_waiting t.step) _ _
      (λ e. absurd (idle_waits t.step p.idle (both_true timer (is_waiting t.step) e).1))
      (λ e. over p)

  -- completion: the file's length is kept or 0
  kept_short : (t : TransferState) (discard : Bool) → t.file.length ≤ store_limit → kept_length t discard ≤ store_limit
  unfolding kept_length
  kept_short t discard h = by_cond (λ n. n ≤ store_limit) (discards t discard) 0 t.file.length (lit≤ tt) h

  completion-held : (t : TransferState) (out : List ℕ) → Held s t → Held s (completion_of (remote_for s).local (remote_for s).discard t out).completed.state
  unfolding completion_of
  completion-held t out p =
      let idle = idle_over (kept_length t (remote_for s).discard) (kept_short t (remote_for s).discard (held_short t p)) in
      let Ends : Ended → Type 0 = λ e. Held s e.completed.state in
      by_cond Ends t.closure _ _ (over idle) (over idle)

  ended_held : (d : Declared) (out : List ℕ) → Declares d → Held s (ended_of (remote_for s) d out).busy.state
  unfolding ended_of
  ended_held d out p =
      let Leaves : Left → Type 0 = λ l. Held s l.busy.state in
      by_cond Leaves (is_completion d.state.step) _ _ (completion-held d.state out p) p

  -- the busy steps
  pub busy-held : (f : Faults) (t : TransferState) (store out : List ℕ) (timer : Bool) → Held s t → Held s (busy_of f (remote_for s) t store out timer).busy.state
  unfolding busy_of
  busy-held f t store out timer p =
      ended_held (waited_of f (remote_for s) t store timer) out (waited_held f t store timer p)
