-- A record on the quick way is the step: where it is done the step leaves what it hands back, and where it is not the store is as it was.
use Prim.Native.Nat.{ℕ, ◌+◌}
use mathlib.Core.Path.{◌≡◌, refl, sym, ap, ◌∙◌}
use mathlib.Core.Bool.{Bool, true, false, false≢true}
use mathlib.Core.List.{List}
use lib.Dec.{eqb}
use lib.ListN.{length}
use borrow.Author.Tests.{eq-eqb, eqb-true}
use Rattle.laws.specs.Parts.{stretch}
use Rattle.quick.specs.Quick.{quick_of}
use Rattle.quick.proofs.Laws.{quick_same, quick_counted}
use Rattle.recording.specs.Record.{record_of}
use Rattle.recording.specs.Tally.{counted, data_bytes}
use Rattle.recording.specs.declared.record.RecordRead.{RecordRead}
use Rattle.recording.specs.declared.record.RecordRead.TheVariants.{End, Bad, Poll, Packet}
use Rattle.recording.specs.declared.tally.Tally.{Tally}
use Rattle.replay.specs.Replay.{Step, step, after_call, call_step, step_by, step_of}
use Rattle.replay.specs.Quick.{Tried, quick_step_by, quick_step_of, moved_of, quick_stepped}
use Rattle.replay.specs.declared.Replay.{Replay}

-- the tally counts bytes only of a call that was accepted
counts_by : (t : Tally) (answer n k : ℕ) (b : Bool) → eqb answer 0 ≡ b → (answer ≡ 0 → n ≡ k) → counted t answer n ≡ counted t answer k
unfolding counted
counts_by t answer n k true e same = rw (same (eqb-true answer 0 e))
counts_by t answer n k false e same = rw e

counts_same : (t : Tally) (answer n k : ℕ) → (answer ≡ 0 → n ≡ k) → counted t answer n ≡ counted t answer k
counts_same t answer n k same = counts_by t answer n k (eqb answer 0) refl same

module _ (m : Replay) (store out s : List ℕ) where
  -- a step and the quick way beside it
  pub record Same (x : Step) (q : Tried) : Type 0 where
    pub right : q.quick.call.done ≡ true → x ≡ step (quick_stepped m q.quick) q.store out
    pub kept : q.quick.call.done ≡ false → q.store ≡ store

  -- a PDU
  module _ (timer : Bool) (n : ℕ) where
    abbrev pdu : List ℕ
    pdu = stretch s 4 (4 + n)

    bytes_same : (quick_of m.state store (length out) pdu).quick.done ≡ true → (quick_of m.state store (length out) pdu).quick.answer ≡ 0 → data_bytes pdu ≡ (quick_of m.state store (length out) pdu).quick.count
    unfolding data_bytes
    bytes_same d a =
        let c = quick_counted m.state store (length out) pdu d a in
        rw (eq-eqb _ 0 c.header, c.file-data) (sym c.bytes)

    packet_same : Same (step_by (Packet timer n) m store out s) (quick_step_by (Packet timer n) m store (length out) s)
    unfolding after_call moved_of
    packet_same =
        let beside = quick_same m.state store out timer pdu in
        let q = quick_of m.state store (length out) pdu in
        record {
          right = λ d. ap (call_step m (4 + n) (data_bytes pdu)) (beside.right d) ∙ rw (counts_same m.tally q.quick.answer (data_bytes pdu) q.quick.count (bytes_same d));
          kept = beside.kept;
        }

  same_by : (r : RecordRead) → Same (step_by r m store out s) (quick_step_by r m store (length out) s)
  same_by End = record { right = λ d. absurd (false≢true d); kept = λ d. refl }
  same_by Bad = record { right = λ d. absurd (false≢true d); kept = λ d. refl }
  same_by (Poll timer) = record { right = λ d. absurd (false≢true d); kept = λ d. refl }
  same_by (Packet timer n) = packet_same timer n

  -- any record
  pub quick_step-same : Same (step_of m store out s) (quick_step_of m store (length out) s)
  unfolding step_of quick_step_of
  quick_step-same = same_by (record_of s)
