-- Whatever makes a running transfer idle leaves `idle_after` of its length: a fault's handler and completion do, and no other step of
-- the transfer goes idle.
use Rattle.transfer.specs.Transfer.{Note}
use Prim.Native.Nat.{ℕ}
use mathlib.Core.Path.{◌≡◌, refl, sym, ◌∙◌}
use mathlib.Core.Bool.{Bool, true, false, ◌&&◌, false≢true}
use mathlib.Core.List.{List}
use lib.Dec.{eqb, ltb, leb}
use Rattle.laws.proofs.Tests.{by_cond, both_true, by_test}
use Rattle.codes.specs.Codes.{filestore_rejection, file_checksum_failure, file_size_error, check_limit_reached, unsupported_checksum_type, modular, null_checksum}
use Rattle.bodies.specs.declared.eof.EofPdu.{EofPdu}
use Rattle.filestore.specs.Checksum.{checksum_of}
use Rattle.finished.specs.declared.EntityId.{EntityId}
use Rattle.transfer.specs.Transfer.{is_idle, is_waiting, is_completion, idle_after}
use Rattle.transfer.specs.Fault.{cancels, abandons, ignores, handled, declared_of}
use Rattle.transfer.specs.Verify.{verified_of, unsupported_of}
use Rattle.transfer.specs.Segment.{Kept, segment_by}
use Rattle.steps.specs.Eof.{failed_of, eof_by, eof_verified, eof_handled_of}
use Rattle.steps.specs.Waiting.{limit_of, check_by, check_of}
use Rattle.steps.specs.Completion.{Ended, completion_of}
use Rattle.steps.specs.Busy.{Left, waited_of, ended_of, busy_of}
use Rattle.transfer.specs.declared.TransactionStep.{TransactionStep}
use Rattle.transfer.specs.declared.TransactionStep.TheVariants.{Idle, Receiving, Waiting, Completion}
use Rattle.transfer.specs.declared.TransferState.{TransferState}
use Rattle.steps.specs.declared.Faults.{Faults}
use Rattle.steps.specs.declared.Remote.{Remote}
use Rattle.transfer.specs.declared.Declared.{Declared}
use Rattle.steps.specs.declared.EofHandled.{EofHandled}
use Rattle.transfer.specs.declared.Verdict.{Verdict}
use Rattle.transfer.specs.declared.Verified.{Verified}

-- a transfer that runs, and one that left nothing but its length where it is over
abbrev pub Running : TransferState → Type 0
Running t = is_idle t.step ≡ false

abbrev pub Clean : TransferState → Type 0
Clean t = is_idle t.step ≡ true → t ≡ idle_after t.file.length

pub running_clean : {t : TransferState} → Running t → Clean t
running_clean r e = absurd (false≢true (sym r ∙ e))

idle_clean : (n : ℕ) → Clean (idle_after n)
unfolding idle_after
idle_clean n e = refl

handled_clean : (h : ℕ) (t : TransferState) (c : ℕ) → Clean t → Clean (handled h t c)
unfolding handled
handled_clean h t c k =
    by_cond Clean (cancels h) _ _ (λ e. absurd (false≢true e)) (by_cond Clean (abandons h) _ _ (idle_clean t.file.length) k)

-- a verdict, by what is done with its transfer: a good one goes on to completion, a bad one runs on, an ended one is over
abbrev Fine : Verdict → TransferState → Type 0
Fine Verdict.Good t = Unit {0}
Fine Verdict.Bad t = Running t
Fine Verdict.Ended t = Clean t

abbrev FineVerified : Verified → Type 0
FineVerified v = Fine v.verdict v.state

module _ (t : TransferState) (running : Running t) where
  unsupported_fine : (h : ℕ) → FineVerified (unsupported_of h t)
  unfolding unsupported_of
  unsupported_fine h = by_cond FineVerified (abandons h) _ _ (handled_clean h t unsupported_checksum_type (running_clean running)) tt

  verified_fine : (h : ℕ) (file : List ℕ) (sum : ℕ) → FineVerified (verified_of h t file sum)
  unfolding verified_of
  verified_fine h file sum =
      by_cond FineVerified (eqb t.checksumtype modular) _ _ (by_cond FineVerified (eqb (checksum_of file) sum) _ _ tt running)
      (by_cond FineVerified (eqb t.checksumtype null_checksum) _ _ tt (unsupported_fine h))

-- the EOF
failed_clean : (h : ℕ) (t : TransferState) (sum : ℕ) (size : Note) → Running t → Clean (failed_of h t sum size).state
unfolding failed_of
failed_clean h t sum size running =
    by_cond Clean (ignores h) _ _ (λ e. absurd (false≢true e)) (handled_clean h t file_checksum_failure (running_clean running))

eof_by_clean : (h sum : ℕ) (size : Note) (k : Verdict) (v : Verified) → Fine k v.state → Clean (eof_by h sum size k v).state
eof_by_clean h sum size Verdict.Good v fine = λ e. absurd (false≢true e)
eof_by_clean h sum size Verdict.Bad v fine = failed_clean h v.state sum size fine
eof_by_clean h sum size Verdict.Ended v fine = fine

module _ (f : Faults) (t : TransferState) (running : Running t) where
  eof_verified_clean : (file : List ℕ) (sum : ℕ) (size : Note) → Clean (eof_verified f t file sum size).state
  unfolding eof_verified
  eof_verified_clean file sum size =
      let v : Verified = verified_of f.unsupported t file sum in
      eof_by_clean f.checksum sum size v.verdict v (verified_fine t running f.unsupported file sum)

  pub eof_clean : (file : List ℕ) (e : EofPdu) → Clean (eof_handled_of f t file e).state
  unfolding eof_handled_of
  eof_clean file e =
      by_cond (λ (x : EofHandled). Clean x.state) (ltb e.size t.file.progress) _ _
      (by_cond (λ (x : EofHandled). Clean x.state) (ignores f.filesize) _ _ (eof_verified_clean file e.checksum _)
      (handled_clean f.filesize t file_size_error (running_clean running)))
      (eof_verified_clean file e.checksum _)

  -- the waiting step
  limit_clean : (h limit : ℕ) (v : TransferState) → Running v → Clean (limit_of h limit v).state
  unfolding limit_of declared_of
  limit_clean h limit v r =
      by_cond (λ (x : Declared). Clean x.state) (leb limit _) _ _ (handled_clean h v check_limit_reached (running_clean r)) (running_clean r)

  check_by_clean : (h limit : ℕ) (k : Verdict) (v : Verified) → Fine k v.state → Clean (check_by h limit k v).state
  check_by_clean h limit Verdict.Good v fine = λ e. absurd (false≢true e)
  check_by_clean h limit Verdict.Bad v fine = limit_clean h limit v.state fine
  check_by_clean h limit Verdict.Ended v fine = fine

  check_clean : (limit : ℕ) (file : List ℕ) → Clean (check_of f limit t file).state
  unfolding check_of
  check_clean limit file =
      let v : Verified = verified_of f.unsupported t file t.check.checksum in
      check_by_clean f.checklimit limit v.verdict v (verified_fine t running f.unsupported file t.check.checksum)

-- a segment
pub segment_clean : (n h : ℕ) (t : TransferState) (store : List ℕ) (o : ℕ) (d : List ℕ) → Running t → Clean (segment_by n h t store o d).segmented.state
unfolding segment_by
segment_clean n h t store o d running =
    by_cond (λ (k : Kept). Clean k.segmented.state) (eqb n 0) _ _ (running_clean running)
    (by_cond (λ (k : Kept). Clean k.segmented.state) (eqb n 19) _ _ (handled_clean h t filestore_rejection (running_clean running)) (running_clean running))

-- the busy steps
waiting_running : (x : TransactionStep) → is_waiting x ≡ true → is_idle x ≡ false
waiting_running Idle e = sym e
waiting_running Receiving e = refl
waiting_running Waiting e = refl
waiting_running Completion e = refl

module _ (f : Faults) (r : Remote) (t : TransferState) (clean : Clean t) where
  waited_clean : (store : List ℕ) (timer : Bool) → Clean (waited_of f r t store timer).state
  unfolding waited_of
  waited_clean store timer =
      by_test (λ (x : Declared). Clean x.state) (timer && is_waiting t.step) _ _
      (λ e. check_clean f t (waiting_running t.step (both_true timer (is_waiting t.step) e).1) r.limit _)
      (λ e. clean)

  completion_clean : (local : EntityId) (discard : Bool) (v : TransferState) (out : List ℕ) → Clean (completion_of local discard v out).completed.state
  unfolding completion_of
  completion_clean local discard v out =
      by_cond (λ (x : Ended). Clean x.completed.state) v.closure _ _ (idle_clean _) (idle_clean _)

  ended_clean : (d : Declared) (out : List ℕ) → Clean d.state → Clean (ended_of r d out).busy.state
  unfolding ended_of
  ended_clean d out k =
      by_cond (λ (x : Left). Clean x.busy.state) (is_completion d.state.step) _ _ (completion_clean r.local r.discard d.state out) k

  pub busy_clean : (store out : List ℕ) (timer : Bool) → Clean (busy_of f r t store out timer).busy.state
  unfolding busy_of
  busy_clean store out timer = ended_clean (waited_of f r t store timer) out (waited_clean store timer)
