-- A recording may be read in parts: where the bytes at hand tell what the next record is, no byte behind them is looked at.
use Prim.Native.Nat.{ℕ, ◌+◌, ◌-◌, ◌≤◌, ◌<◌}
use mathlib.Core.Path.{◌≡◌, refl}
use mathlib.Core.Bool.{Bool, true, false, ◌&&◌, ◌||◌}
use mathlib.Core.List.{List, ◌++◌}
use native.Mathlib.Omega.{arith}
use lib.Dec.{leb, ltb, eqb}
use lib.ListN.{length, get_or, take, drop, length-append, length-drop, get_or-append}
use lib.Seq.{take-append-le, drop-append-le}
use borrow.Author.Tests.{le-leb, lt-leb, leb-true, ltb-true, ne_eqb}
use Rattle.laws.specs.Parts.{stretch}
use Rattle.laws.proofs.Tests.{both_true, and-false}
use Rattle.numbers.specs.Numbers.{number_at}
use Rattle.recording.specs.Record.{pdu_length, record_whole, record_of, record_settled}
use Rattle.recording.specs.declared.record.RecordRead.{RecordRead}
use Rattle.recording.specs.declared.record.RecordRead.TheVariants.{End, Bad, Poll, Packet}
use Rattle.recording.proofs.Laws.{packet_fits}
use Rattle.replay.specs.Replay.{step_by, step_of}
use Rattle.replay.specs.declared.Replay.{Replay}

module _ (s more : List ℕ) where
  -- a part that lies within s
  front : (a n : ℕ) → a + n ≤ length s → take n (drop a (s ++ more)) ≡ take n (drop a s)
  front a n h =
      rw (drop-append-le a s more (omega arith), take-append-le n (drop a s) more (rw length-drop (omega arith)))

  number_front : 4 ≤ length s → number_at (s ++ more) 2 2 ≡ number_at s 2 2
  unfolding number_at
  number_front h = rw (front 2 2 h)

  stretch-front : (a e : ℕ) → a ≤ e → e ≤ length s → stretch (s ++ more) a e ≡ stretch s a e
  unfolding stretch
  stretch-front a e h k = front a (e - a) (omega arith)

  -- a record that is bad by its kind or its timer
  first_same : 1 ≤ length s → get_or (s ++ more) 0 0 ≡ get_or s 0 0
  first_same h = get_or-append s more 0 0 (omega arith)

  second_same : 2 ≤ length s → get_or (s ++ more) 1 0 ≡ get_or s 1 0
  second_same h = get_or-append s more 0 1 (omega arith)

  longer : length s ≤ length (s ++ more)
  longer = omega (arith, length-append s more)

  bad_kind : 1 ≤ length s → 1 < get_or s 0 0 → record_of (s ++ more) ≡ record_of s
  unfolding record_of record_whole
  bad_kind h k =
      rw
      (ne_eqb (length (s ++ more)) 0 (λ e. omega (arith, longer)), ne_eqb (length s) 0 (λ e. omega arith), first_same h, lt-leb (get_or s 0 0) 1 k, and-false (leb 2 (length (s ++ more))), and-false (leb 2 (length s)))

  bad_timer : 2 ≤ length s → 1 < get_or s 1 0 → record_of (s ++ more) ≡ record_of s
  unfolding record_of record_whole
  bad_timer h k =
      rw
      (ne_eqb (length (s ++ more)) 0 (λ e. omega (arith, longer)), ne_eqb (length s) 0 (λ e. omega arith), first_same (omega arith), second_same h, le-leb 2 (length (s ++ more)) (omega (arith, longer)), le-leb 2 (length s) h, lt-leb (get_or s 1 0) 1 k, and-false (leb (get_or s 0 0) 1))

  -- a whole one: a poll, or a PDU that is there
  whole_by : (polls : Bool) → eqb (get_or s 0 0) 0 ≡ polls → 2 ≤ length s → leb (get_or s 0 0) 1 ≡ true → leb (get_or s 1 0) 1 ≡ true → (polls || (leb 4 (length s) && leb (4 + pdu_length s) (length s))) ≡ true → record_of (s ++ more) ≡ record_of s
  unfolding record_of record_whole
  whole_by true e h k t rest =
      rw
      (ne_eqb (length (s ++ more)) 0 (λ z. omega (arith, longer)), ne_eqb (length s) 0 (λ z. omega arith), first_same (omega arith), second_same h, le-leb 2 (length (s ++ more)) (omega (arith, longer)), le-leb 2 (length s) h, k, t, e)
  whole_by false e h k t rest =
      let both = both_true (leb 4 (length s)) _ rest in
      let four = leb-true 4 (length s) both.0 in
      let fits = leb-true (4 + pdu_length s) (length s) both.1 in
      rw
      (ne_eqb (length (s ++ more)) 0 (λ z. omega (arith, longer)), ne_eqb (length s) 0 (λ z. omega arith), first_same (omega arith), second_same h, number_front four, le-leb 2 (length (s ++ more)) (omega (arith, longer)), le-leb 2 (length s) h, k, t, e, le-leb 4 (length (s ++ more)) (omega (arith, longer)), le-leb (4 + pdu_length s) (length (s ++ more)) (omega (arith, longer)), both.0, both.1)

  whole-front : record_whole s ≡ true → record_of (s ++ more) ≡ record_of s
  unfolding record_whole
  whole-front e =
      let a = both_true (leb 2 (length s)) _ e in
      let b = both_true (leb (get_or s 0 0) 1) _ a.1 in
      let c = both_true (leb (get_or s 1 0) 1) _ b.1 in
      whole_by (eqb (get_or s 0 0) 0) refl (leb-true 2 (length s) a.0) b.0 c.0 c.1

  -- the record that stands there, where the bytes at hand tell it
  settled_by : (kind timer : Bool) → (leb 1 (length s) && ltb 1 (get_or s 0 0)) ≡ kind → (leb 2 (length s) && ltb 1 (get_or s 1 0)) ≡ timer → (kind || (timer || record_whole s)) ≡ true → record_of (s ++ more) ≡ record_of s
  settled_by true timer p q e = let b = both_true (leb 1 (length s)) _ p in bad_kind (leb-true 1 (length s) b.0) (ltb-true 1 (get_or s 0 0) b.1)
  settled_by false true p q e = let b = both_true (leb 2 (length s)) _ q in bad_timer (leb-true 2 (length s) b.0) (ltb-true 1 (get_or s 1 0) b.1)
  settled_by false false p q e = whole-front e

  pub record_front : record_settled s ≡ true → record_of (s ++ more) ≡ record_of s
  unfolding record_settled
  record_front e = settled_by _ _ refl refl e

  -- and what it does
  step_by_lem : (r : RecordRead) → record_of s ≡ r → (m : Replay) (store out : List ℕ) → step_by r m store out (s ++ more) ≡ step_by r m store out s
  step_by_lem End e m store out = refl
  step_by_lem Bad e m store out = refl
  step_by_lem (Poll timer) e m store out = refl
  step_by_lem (Packet timer n) e m store out = rw (stretch-front 4 (4 + n) (omega arith) (packet_fits s timer n e))

  pub step-front : record_settled s ≡ true → (m : Replay) (store out : List ℕ) → step_of m store out (s ++ more) ≡ step_of m store out s
  unfolding step_of
  step-front e m store out = rw (record_front e) (step_by_lem (record_of s) refl m store out)
