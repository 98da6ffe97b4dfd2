-- A refused call changes nothing, but for 19, which leaves the transfer to fault 4's handler and gives its indications.
use Rattle.std.specs.Prelude.{Some, None}
use Rattle.transfer.specs.Transfer.{Note}
use Prim.Native.Nat.{ℕ, ◌≤◌}
use mathlib.Core.Path.{◌≡◌, refl, ap, ◌∙◌}
use mathlib.Core.Bool.{Bool, true, cond}
use mathlib.Core.List.{List, [], ◌∷◌, ◌++◌}
use native.Mathlib.Omega.{arith}
use lib.ListN.{length, length-append}
use borrow.Author.Tests.{ne_eqb, not-true}
use Rattle.laws.proofs.Tests.{by_cond}
use Rattle.laws.proofs.Picked.{through}
use Rattle.codes.specs.Codes.{filestore_rejection, notice_of_cancellation, ignore_error, abandon_transaction}
use Rattle.packet_info.specs.Routing.{is_file_data}
use Rattle.transfer.specs.Transfer.{id_of, idle_after, is_idle}
use Rattle.transfer.specs.Fault.{cancels, abandons, cancelled_by, handled}
use Rattle.transfer.specs.declared.TransactionStep.TheVariants.{Completion}
use Rattle.transfer.specs.declared.TransferState.{TransferState}
use Rattle.transfer.specs.declared.Indication.{Indication}
use Rattle.state.specs.State.{settled}
use Rattle.state.specs.declared.State.{State}
use Rattle.inserting.specs.Insert.{takes_data}
use Rattle.dest.specs.Call.{Input, Outcome, told, listed, refused_call, call_of}
use Rattle.dest.specs.declared.Indications.{Indications}
use Rattle.inserting.proofs.Laws.{takes-busy}
use Rattle.promises.specs.Nineteen.{segment_in, filestore_handler, unfit_call}
use Rattle.promises.proofs.Unchanged.{call_unchanged}
use Rattle.promises.proofs.Nineteen.{call_tells}

-- a handler leaves the length, and the progress unless it abandons
handled-length : (h : ℕ) (t : TransferState) (c : ℕ) → (handled h t c).file.length ≡ t.file.length
unfolding handled idle_after
handled-length h t c =
    by_cond (λ (x : TransferState). x.file.length ≡ t.file.length) (cancels h) _ _ refl
    (by_cond (λ (x : TransferState). x.file.length ≡ t.file.length) (abandons h) _ _ refl refl)

handled_file : (h : ℕ) (t : TransferState) (c : ℕ) → (h ≡ abandon_transaction → ⊥) → (handled h t c).file ≡ t.file
unfolding handled
handled_file h t c n = rw (ne_eqb h abandon_transaction n) (by_cond (λ (x : TransferState). x.file ≡ t.file) (cancels h) _ _ refl refl)

-- an indication or none
told_short : (i : Note) → length (told i) ≤ 1
told_short None = omega arith
told_short (Some i) = omega arith

-- a call gives at most five indications
pub at_most_five : (n : Indications) → length (listed n) ≤ 5
at_most_five n =
    simp length-append
    (omega (arith, told_short n.first, told_short n.second, told_short n.third, told_short n.fourth, told_short n.fifth))

module _ (s : State) (store out : List ℕ) (i : Input) (timer : Bool) where
  -- what the call answers
  abbrev pub answer : ℕ
  answer = (call_of s store out i timer).called.answer

  -- all but 19 leave state, store and out as they were
  pub refused_changes_nothing : (answer ≡ 0 → ⊥) → (answer ≡ 19 → ⊥) → call_of s store out i timer ≡ refused_call answer s store out
  refused_changes_nothing = call_unchanged s store out timer i

  -- and give no indication
  pub refused_tells_nothing : (answer ≡ 0 → ⊥) → (answer ≡ 19 → ⊥) → listed (call_of s store out i timer).called.notes ≡ []
  refused_tells_nothing h k = ap (λ (o : Outcome). listed o.called.notes) (refused_changes_nothing h k)

  -- 19: the input is a file data PDU, and the call leaves `unfit_call`
  pub nineteen : answer ≡ 19 → (pdu : List ℕ) × (i ≡ Input.packet pdu) × (is_file_data pdu ≡ true) × (takes_data s.transfer.step ≡ true) × (call_of s store out i timer ≡ unfit_call s store out pdu)
  nineteen = call_tells s store out timer i

  module _ (e : answer ≡ 19) where
    -- the state that it leaves
    abbrev pub after : State
    after = (call_of s store out i timer).called.state

    -- store and out are as they were, nothing is sent, and the state is what the handler of fault 4 makes of it
    pub nineteen_leaves : ((call_of s store out i timer).store ≡ store) × ((call_of s store out i timer).out ≡ out) × ((call_of s store out i timer).called.sent ≡ 0) × (after ≡ settled s (handled (filestore_handler s) s.transfer filestore_rejection))
    nineteen_leaves = let whole = (nineteen e).4 in (rw whole, rw whole, rw whole, ap (λ (o : Outcome). o.called.state) whole)

    -- the length is as it was, and the progress too unless the handler abandons
    pub nineteen-length : after.transfer.file.length ≡ s.transfer.file.length
    unfolding settled
    nineteen-length = ap (λ (x : State). x.transfer.file.length) nineteen_leaves.3 ∙ handled-length (filestore_handler s) s.transfer filestore_rejection

    pub nineteen_file : (filestore_handler s ≡ abandon_transaction → ⊥) → after.transfer.file ≡ s.transfer.file
    unfolding settled
    nineteen_file n = ap (λ (x : State). x.transfer.file) nineteen_leaves.3 ∙ handled_file (filestore_handler s) s.transfer filestore_rejection n

    -- cancel: condition 4, on to completion; length and progress are as they were
    pub nineteen-cancels : filestore_handler s ≡ notice_of_cancellation → (after.transfer ≡ cancelled_by s.transfer filestore_rejection) × (after.transfer.step ≡ Completion) × (after.transfer.finish.condition ≡ filestore_rejection) × (after.transfer.finish.cancelled ≡ true) × (after.transfer.file ≡ s.transfer.file)
    unfolding settled handled
    nineteen-cancels h = rw (nineteen_leaves.3, h) (refl, refl, refl, refl, refl)

    -- ignore: the state is as it was
    pub nineteen-ignores : filestore_handler s ≡ ignore_error → after ≡ s
    unfolding settled handled
    nineteen-ignores h = rw (nineteen_leaves.3, h, not-true (is_idle s.transfer.step) (takes-busy s.transfer.step (nineteen e).3))

    -- abandon: idle at once, with the length as it was
    pub nineteen-abandons : filestore_handler s ≡ abandon_transaction → after.transfer ≡ idle_after s.transfer.file.length
    unfolding settled handled
    nineteen-abandons h = rw (nineteen_leaves.3, h)

-- an input's PDU is one
same-pdu : {a b : List ℕ} → Input.packet a ≡ Input.packet b → b ≡ a
same-pdu e = cc

-- 19 gives the segment indication, if configured, and then the report of fault 4 with the progress before the call
pub nineteen-tells : (s : State) (store out pdu : List ℕ) (timer : Bool) → (call_of s store out (Input.packet pdu) timer).called.answer ≡ 19 → listed (call_of s store out (Input.packet pdu) timer).called.notes ≡ cond s.config.segmentrecv (Indication.Segment (id_of s.transfer) (segment_in pdu).offset (length (segment_in pdu).bytes) ∷ []) [] ++ (Indication.Fault (filestore_handler s) (id_of s.transfer) filestore_rejection s.transfer.file.progress ∷ [])
nineteen-tells s store out pdu timer e =
    let known = nineteen s store out (Input.packet pdu) timer e in
    rw (known.4, same-pdu known.1, through told s.config.segmentrecv)
