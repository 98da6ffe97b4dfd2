-- The user's three demands. What stands here is what is claimed; proofs/Demands.antt has a theorem of each type, and nothing else has to be read
-- to know what was proved but the definitions that are imported.
--
-- `call_of` (crates/dest/specs/Call.antt) is what one call leaves: answer, state, PDU sent, indications, store and out. That the code does this, on
-- any input and without a trap, is the contract of `dest::insert` and `dest::poll`, which demand nothing of their caller.
use Rattle.std.specs.Prelude.{ℕ, ◌-◌, ◌<◌, max, ◌≡◌, Bool, true, false, cond, ◌&&◌, ◌||◌, List, [], ◌∷◌, eqb, length, get_or}
use Rattle.laws.specs.First.{first_of}
use Rattle.codes.specs.Codes.{no_error, check_limit_reached, abandon_transaction}
use Rattle.header.specs.Header.{conf_of}
use Rattle.filestore.specs.Checksum.{checksum_of}
use Rattle.filestore.specs.Contents.{Segment, carried, reach}
use Rattle.filestore.specs.File.{file_of}
use Rattle.config.specs.Config.{handler_of}
use Rattle.config.specs.declared.Config.{Config}
use Rattle.transfer.specs.Fault.{cancels, abandons}
use Rattle.state.specs.State.{busy}
use Rattle.state.specs.declared.State.{State}
use Rattle.dest.specs.Call.{Input, packet, Outcome, refused_call, remote_of, call_of}
use Rattle.recording.specs.Tally as tally
use Rattle.recording.specs.declared.tally.Tally.{Tally}
use Rattle.promises.specs.Nineteen.{filestore_handler, unfit_call}
use Rattle.promises.specs.Sent.{Sends}
use Rattle.demands.specs.Runs.{Held, Given, fresh_held, called_with, after, run_of, outcomes_of, refused, without, others}
use Rattle.demands.specs.Order.{call_order}
use Rattle.demands.specs.File.{segments_after, discarded_after}
use Rattle.demands.specs.Seen.{gives, is_finished, ends, FinishedWith, FaultBy, SumIgnored, is_ending, file_then, checksum_in}

-- 'Refusal 19 does what 01 states': it leaves store, out and length, and progress unless abandoned, gives the segment indication if configured and
-- the fault 4 report, and its state is what fault 4's handler makes of it (`unfit_call`).
pub record Nineteen (s : State) (store out : List ℕ) (i : Input) (o : Outcome) : Type 0 where
  pub pdu : List ℕ
  pub input : i ≡ packet pdu
  pub call : o ≡ unfit_call s store out pdu
  pub length : o.called.state.transfer.file.length ≡ s.transfer.file.length
  pub progress : (filestore_handler s ≡ abandon_transaction → ⊥) → o.called.state.transfer.file.progress ≡ s.transfer.file.progress

-- DEMAND 1. 'Any bytes in any order of calls are answered and never trap. Each refusal in 01 is given exactly when 01 says, and changes nothing
-- lent or held but the tally's count, except 19, which does what 01 states.' Any state: so also any that calls in any order may have left.
pub record Demand1 : Type 0 where
  -- the answer is the number of the first condition of 01's order that holds, and 0 where none does
  pub exactly : (s : State) (store out : List ℕ) (i : Input) (timer : Bool) → (call_of s store out i timer).called.answer ≡ first_of (call_order s (length store) (length out) i)
  -- a refusal other than 19 leaves state, store and out as they were, sends nothing and gives no indication
  pub unchanged : (s : State) (store out : List ℕ) (i : Input) (timer : Bool) → let o = call_of s store out i timer in refused o ≡ true → o ≡ refused_call o.called.answer s store out
  -- the tally counts it among the refused calls, up to 2^32 - 1, and keeps its other two counts
  pub tallied : (t : Tally) (answer bytes : ℕ) → (answer ≡ 0 → ⊥) → tally.counted t answer bytes ≡ record { accepted = t.accepted; refused = tally.grown t.refused 1; bytes = t.bytes }
  -- 19
  pub nineteen : (s : State) (store out : List ℕ) (i : Input) (timer : Bool) → let o = call_of s store out i timer in o.called.answer ≡ 19 → Nineteen s store out i o

-- The file of a receiver, by the accepted segments of its transfer: while the transfer runs it is not discarded; unless it was discarded it reaches
-- to their largest end; and each byte of it is the one that the last of them over its offset carried, or 0.
pub record FileIs (h : Held) (segments : List Segment) (discarded : Bool) : Type 0 where
  pub runs : busy h.state ≡ true → discarded ≡ false
  pub reaches : discarded ≡ false → h.state.transfer.file.length ≡ reach segments
  pub bytes : (i : ℕ) → i < h.state.transfer.file.length → get_or (file_of h.store h.state.transfer.file.length) i 0 ≡ carried segments i

-- DEMAND 2. 'PDU bytes, checksum and file contents are proved equal to a definition written from CCSDS 727.0-B-5.' The readers, the sum and the
-- writer have their definitions in their contracts; here is what follows for the file and for what is sent. ('The receiver equals the Rust' is
-- shown by runs, and no theorem: docs/DIFFERENCES.md.)
pub record Demand2 : Type 0 where
  -- at every point of a run from a fresh receiver, while a transfer runs and when it has ended, each byte of the file is at its own offset
  pub file : (g : Config) (store out : List ℕ) (xs : List Given) → let fresh = fresh_held g store out in FileIs (run_of fresh xs) (segments_after [] fresh xs) (discarded_after false fresh xs)
  -- a call sends nothing, or the Finished PDU of the standard that says what the Finished indication says
  pub sent : (s : State) (store out : List ℕ) (i : Input) (timer : Bool) → let o = call_of s store out i timer in Sends s out o.called.sent o.called.notes.fifth o.out

-- 'An accepted EOF fails its sum and starts the wait': it reports the failed sum, by a handler that ignores.
abbrev pub StartsWait : Outcome → Type 0
StartsWait o = (o.called.answer ≡ 0) × SumIgnored o.called.notes.third

-- 'Check limit L', of the EOF's source, and 'limit fault set to cancel or abandon'.
abbrev pub check_limit : Config → List ℕ → ℕ
check_limit g pdu = (remote_of g (conf_of pdu).source).limit

abbrev pub limit_handler : Config → ℕ
limit_handler g = handler_of g.handlers check_limit_reached

abbrev pub limit_ends : Config → Bool
limit_ends g = cancels (limit_handler g) || abandons (limit_handler g)

-- 'Accepted calls with timer flag set': those that are counted.
abbrev pub counted : Given → Outcome → Bool
counted x o = x.timer && eqb o.called.answer 0

-- 'Unless a refusal 19 cancels or abandons it first': it reports fault 4 with such a handler.
abbrev pub stops : Outcome → Bool
stops o = eqb o.called.answer 19 && is_ending o.called.notes.second

-- 'By the limit fault', as the caller sees it: its report; with cancel the Finished indication with condition 10, with abandon no Finished
-- indication and no PDU.
abbrev pub EndsByLimit : ℕ → List ℕ → Outcome → Type 0
EndsByLimit handler out o =
    FaultBy handler check_limit_reached o.called.notes.fourth
    × cond (cancels handler) (FinishedWith check_limit_reached o.called.notes.fifth)
    ((gives is_finished o ≡ false) × (o.called.sent ≡ 0) × (o.out ≡ out))

-- What the demand says of a run, call by call, where k more calls are counted until the limit: at a counted call whose file then sums to the EOF's
-- checksum the transfer ends with condition 0; else at the last of the counted calls by the limit fault; at no other call.
unfoldable pub Waits : ℕ → ℕ → Held → List Given → Type 0
Waits k sum h [] = Unit {0}
Waits k sum h (x ∷ rest) =
    let o = called_with h x in
    cond (stops o) (Unit {0})
    (cond (counted x o)
    (cond (eqb (checksum_of (file_then h x)) sum)
    ((ends o ≡ true) × FinishedWith no_error o.called.notes.fifth)
    (cond (eqb k 1)
    ((ends o ≡ true) × EndsByLimit (limit_handler h.state.config) h.out o)
    ((ends o ≡ false) × Waits (k - 1) sum (after o) rest)))
    ((ends o ≡ false) × Waits k sum (after o) rest))

-- DEMAND 3. 'From a fresh receiver, with one store lent and untouched between calls, let an accepted EOF fail its sum and start the wait, check
-- limit L, limit fault set to cancel or abandon. Take the first max(1, L) accepted calls from then on with timer flag set, the EOF's own included.
-- Unless a refusal 19 cancels or abandons it first, the transfer ends with condition 0 at the first of these whose file then sums to the EOF's
-- checksum; if none does, it ends exactly at the last of these, by the limit fault. It ends at no other call. No foreign or refused PDU, 19 apart,
-- alters any of this.'
pub record Demand3 : Type 0 where
  -- the run before the EOF, the EOF's own call, and the calls after it
  pub waits : (g : Config) (store out : List ℕ) (before : List Given) (pdu : List ℕ) (timer : Bool) (rest : List Given) → let h = run_of (fresh_held g store out) before in let x : Given = record { input = packet pdu; timer = timer } in StartsWait (called_with h x) → limit_ends g ≡ true → Waits (max 1 (check_limit g pdu)) (checksum_in pdu) h (x ∷ rest)
  -- without the refused calls, 19 apart, a run ends as it does with them, and its other calls leave what they leave with them
  pub unaltered : (h : Held) (xs : List Given) → (run_of h (without h xs) ≡ run_of h xs) × (outcomes_of h (without h xs) ≡ others h xs)
