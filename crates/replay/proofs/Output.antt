-- The whole output, step by step: what is printed from a record on is the record's text, and then what is printed from the next one on.
use Prim.Native.Nat.{ℕ, zero, suc, ◌≤◌}
use mathlib.Core.Path.{◌≡◌, refl, sym, ap, ◌∙◌}
use mathlib.Core.Bool.{true, cond, false≢true}
use mathlib.Core.List.{List, [], ◌∷◌, ◌++◌}
use native.Mathlib.Omega.{arith}
use lib.ListN.{length, drop, replicate, length-drop}
use Rattle.laws.proofs.Picked.{under}
use Rattle.finished.specs.Finished.{out_size}
use Rattle.recording.specs.Record.{record_of}
use Rattle.recording.specs.declared.record.RecordRead.{RecordRead}
use Rattle.recording.specs.declared.record.RecordRead.TheVariants.{End, Bad, Poll, Packet}
use Rattle.replay.specs.Replay.{Step, shown, after_call, step_by, step_of, tally_of, printed_in, printed, Opened, opened_of, output_of}
use Rattle.replay.specs.declared.Replay.{Replay}

-- a step after which the reading goes on took two bytes or more
takes_by : (r : RecordRead) (m : Replay) (store out s : List ℕ) → (step_by r m store out s).stepped.more ≡ true → 2 ≤ (step_by r m store out s).stepped.used
unfolding after_call
takes_by End m store out s e = absurd (false≢true e)
takes_by Bad m store out s e = absurd (false≢true e)
takes_by (Poll timer) m store out s e = omega arith
takes_by (Packet timer n) m store out s e = omega arith

takes : (m : Replay) (store out s : List ℕ) → (step_of m store out s).stepped.more ≡ true → 2 ≤ (step_of m store out s).stepped.used
unfolding step_of
takes m store out s e = takes_by (record_of s) m store out s e

-- at the end only the tally is left
at-end : (steps : ℕ) (m : Replay) (store out : List ℕ) → printed_in steps m store out [] ≡ tally_of m.tally
unfolding printed_in step_of record_of
at-end zero m store out = refl
at-end (suc steps) m store out = refl

none : (s : List ℕ) → length s ≤ 0 → s ≡ []
none [] h = refl
none (x ∷ s) h = absurd (omega arith)

-- any number of steps that is not below the number of bytes gives the same
same_steps : (a b : ℕ) (m : Replay) (store out s : List ℕ) → length s ≤ a → length s ≤ b → printed_in a m store out s ≡ printed_in b m store out s
unfolding printed_in
same_steps zero b m store out s h k = rw (none s h) (sym (at-end b m store out))
same_steps (suc a) zero m store out s h k = rw (none s k) (at-end (suc a) m store out)
same_steps (suc a) (suc b) m store out s h k =
    let r = step_of m store out s in
    ap (λ (l : List ℕ). shown r.stepped.text ++ l)
    (under r.stepped.more (tally_of m.tally)
    (λ e. same_steps a b r.stepped.replay r.store r.out (drop r.stepped.used s) (rw length-drop (omega (arith, takes m store out s e))) (rw length-drop (omega (arith, takes m store out s e)))))

-- one step
pub prints : (m : Replay) (store out s : List ℕ) → (let r = step_of m store out s in printed m store out s ≡ shown r.stepped.text ++ cond r.stepped.more (printed r.stepped.replay r.store r.out (drop r.stepped.used s)) (tally_of m.tally))
unfolding printed printed_in
prints m store out s =
    let r = step_of m store out s in
    let rest = drop r.stepped.used s in
    same_steps (length s) (suc (length s)) m store out s (omega arith) (omega arith)
    ∙ ap (λ (l : List ℕ). shown r.stepped.text ++ cond r.stepped.more l (tally_of m.tally)) (same_steps (length s) (length rest) r.stepped.replay r.store r.out rest (rw length-drop (omega arith)) (omega arith))

-- what a function that takes a step promises: the step, and that its text is what is printed first
pub stepped : (x : Step) (m : Replay) (store out s : List ℕ) → x ≡ step_of m store out s → (x ≡ step_of m store out s) × (printed m store out s ≡ shown x.stepped.text ++ cond x.stepped.more (printed x.stepped.replay x.store x.out (drop x.stepped.used s)) (tally_of m.tally))
stepped x m store out s e = (e, rw e (prints m store out s))

-- and one that reads the header
pub opened : (x : Opened) (s : List ℕ) → x ≡ opened_of s → (x ≡ opened_of s) × (output_of s ≡ shown x.text ++ cond x.more (printed x.replay (replicate x.store 0) (replicate out_size 0) (drop x.used s)) (tally_of x.replay.tally))
unfolding output_of
opened x s e = (e, rw e)
