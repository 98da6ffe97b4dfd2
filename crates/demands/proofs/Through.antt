-- What the steps of a transfer keep: a property of its record that goes through cancelling, abandoning, the step to completion, the wait and its count
-- goes through faults, verification, the EOF and the waiting step. One lemma for each layer of the definition.
use Rattle.std.specs.Prelude.{None}
use Rattle.transfer.specs.Transfer.{Note}
use Prim.Native.Nat.{ℕ}
use mathlib.Core.Bool.{Bool, ◌&&◌}
use mathlib.Core.List.{List}
use lib.Dec.{eqb, ltb, leb}
use Rattle.laws.proofs.Tests.{by_cond}
use Rattle.codes.specs.Codes.{file_checksum_failure, file_size_error, check_limit_reached, unsupported_checksum_type, modular, null_checksum}
use Rattle.bodies.specs.declared.eof.EofPdu.{EofPdu}
use Rattle.filestore.specs.Checksum.{checksum_of}
use Rattle.filestore.specs.File.{file_of}
use Rattle.finished.specs.declared.EntityId.{EntityId}
use Rattle.transfer.specs.Transfer.{is_waiting, is_completion, at_step, with_check, idle_after}
use Rattle.transfer.specs.Fault.{cancels, abandons, ignores, cancelled_by, handled, declared_of}
use Rattle.transfer.specs.Verify.{completed, verified_of, unsupported_of}
use Rattle.steps.specs.Eof.{waiting_for, failed_of, eof_by, eof_verified, eof_handled_of}
use Rattle.steps.specs.Waiting.{limit_of, check_by, check_of}
use Rattle.steps.specs.Completion.{Ended, completion_of}
use Rattle.steps.specs.Busy.{Left, waited_of, ended_of, busy_of}
use Rattle.transfer.specs.declared.CheckState.{CheckState}
use Rattle.transfer.specs.declared.TransactionStep.TheVariants.{Completion}
use Rattle.transfer.specs.declared.TransferState.{TransferState}
use Rattle.steps.specs.declared.Faults.{Faults}
use Rattle.steps.specs.declared.Remote.{Remote}
use Rattle.transfer.specs.declared.Declared.{Declared}
use Rattle.steps.specs.declared.EofHandled.{EofHandled}
use Rattle.transfer.specs.declared.Verdict.{Verdict}
use Rattle.transfer.specs.declared.Verified.{Verified}

-- such a property
pub record Through (P : TransferState → Type 0) : Type 0 where
  pub abandon : (t : TransferState) → P t → P (idle_after t.file.length)
  pub cancel : (t : TransferState) (c : ℕ) → P t → P (cancelled_by t c)
  pub complete : (t : TransferState) → P t → P (at_step t Completion)
  pub wait : (t : TransferState) (sum : ℕ) → P t → P (waiting_for t sum)
  pub count : (t : TransferState) (c : CheckState) → P t → P (with_check t c)
  pub deliver : (t : TransferState) → P t → P (completed t)

module _ (P : TransferState → Type 0) (through : Through P) where
  pub through-handled : (h : ℕ) (t : TransferState) (c : ℕ) → P t → P (handled h t c)
  unfolding handled
  through-handled h t c k =
      by_cond P (cancels h) _ _ (through.cancel t c k) (by_cond P (abandons h) _ _ (through.abandon t k) k)

  -- verification
  abbrev OfVerified : Verified → Type 0
  OfVerified v = P v.state

  verified : (h : ℕ) (t : TransferState) (file : List ℕ) (sum : ℕ) → P t → OfVerified (verified_of h t file sum)
  unfolding verified_of unsupported_of
  verified h t file sum k =
      by_cond OfVerified (eqb t.checksumtype modular) _ _ (by_cond OfVerified (eqb (checksum_of file) sum) _ _ (through.deliver t k) k)
      (by_cond OfVerified (eqb t.checksumtype null_checksum) _ _ (through.deliver t k)
      (by_cond OfVerified (abandons h) _ _ (through-handled h t unsupported_checksum_type k) (through.deliver (handled h t unsupported_checksum_type) (through-handled h t unsupported_checksum_type k))))

  -- the EOF
  eof_by_lem : (h sum : ℕ) (size : Note) (x : Verdict) (v : Verified) → P v.state → P (eof_by h sum size x v).state
  unfolding failed_of
  eof_by_lem h sum size Verdict.Good v k = through.complete v.state k
  eof_by_lem h sum size Verdict.Bad v k = by_cond P (ignores h) _ _ (through.wait v.state sum k) (through-handled h v.state file_checksum_failure k)
  eof_by_lem h sum size Verdict.Ended v k = k

  eof-verified : (f : Faults) (t : TransferState) (file : List ℕ) (sum : ℕ) (size : Note) → P t → P (eof_verified f t file sum size).state
  unfolding eof_verified
  eof-verified f t file sum size k =
      let v : Verified = verified_of f.unsupported t file sum in
      eof_by_lem f.checksum sum size v.verdict v (verified f.unsupported t file sum k)

  pub through-eof : (f : Faults) (t : TransferState) (file : List ℕ) (e : EofPdu) → P t → P (eof_handled_of f t file e).state
  unfolding eof_handled_of
  through-eof f t file e k =
      let OfHandled : EofHandled → Type 0 = λ x. P x.state in
      by_cond OfHandled (ltb e.size t.file.progress) _ _
      (by_cond OfHandled (ignores f.filesize) _ _ (eof-verified f t file e.checksum _ k) (through-handled f.filesize t file_size_error k))
      (eof-verified f t file e.checksum _ k)

  -- the busy steps
  abbrev OfDeclared : Declared → Type 0
  OfDeclared d = P d.state

  check_by_lem : (h limit : ℕ) (x : Verdict) (v : Verified) → P v.state → OfDeclared (check_by h limit x v)
  unfolding limit_of declared_of
  check_by_lem h limit Verdict.Good v k = through.complete v.state k
  check_by_lem h limit Verdict.Bad v k =
      by_cond OfDeclared (leb limit _) _ _ (through-handled h v.state check_limit_reached k) (through.count v.state _ k)
  check_by_lem h limit Verdict.Ended v k = k

  module _ (f : Faults) (r : Remote) (t : TransferState) (k : P t) where
    check : (file : List ℕ) → OfDeclared (check_of f r.limit t file)
    unfolding check_of
    check file =
        let v : Verified = verified_of f.unsupported t file t.check.checksum in
        check_by_lem f.checklimit r.limit v.verdict v (verified f.unsupported t file t.check.checksum k)

    pub through_waited : (store : List ℕ) (timer : Bool) → OfDeclared (waited_of f r t store timer)
    unfolding waited_of
    through_waited store timer =
        by_cond OfDeclared (timer && is_waiting t.step) (check_of f r.limit t (file_of store t.file.length)) (record { state = t; report = None }) (check (file_of store t.file.length)) k

    -- completion leaves an idle record, of some length
    completion : ((n : ℕ) → P (idle_after n)) → (local : EntityId) (discard : Bool) (v : TransferState) (out : List ℕ) → P (completion_of local discard v out).completed.state
    unfolding completion_of
    completion idle local discard v out =
        by_cond (λ (x : Ended). P x.completed.state) v.closure _ _ (idle _) (idle _)

    pub through-busy : ((n : ℕ) → P (idle_after n)) → (store out : List ℕ) (timer : Bool) → P (busy_of f r t store out timer).busy.state
    unfolding busy_of ended_of
    through-busy idle store out timer =
        let d = waited_of f r t store timer in
        by_cond (λ (x : Left). P x.busy.state) (is_completion d.state.step) _ _ (completion idle r.local r.discard d.state out) (through_waited store timer)
