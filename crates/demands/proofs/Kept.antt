-- Demand 1, over runs: taking all refused calls other than 19 out of a run changes neither what is held at its end nor what the other calls leave.
use Prim.Native.Nat.{ℕ}
use mathlib.Core.Path.{◌≡◌, refl, ap}
use mathlib.Core.Bool.{Bool, true, false, cond, not}
use mathlib.Core.List.{List, [], ◌∷◌}
use lib.Dec.{eqb}
use borrow.Author.Tests.{not-true, eqb-false}
use Rattle.laws.proofs.Tests.{both_true}
use Rattle.state.specs.declared.State.{State}
use Rattle.dest.specs.Call.{Input, Outcome, refused_call, call_of}
use Rattle.promises.proofs.Refused.{refused_changes_nothing}
use Rattle.demands.specs.Runs.{Held, Given, called_with, after, run_of, outcomes_of, refused, without, others}

-- a call that is refused, by another number than 19, changes nothing
pub refused_unchanged : (s : State) (store out : List ℕ) (i : Input) (timer : Bool) → refused (call_of s store out i timer) ≡ true → call_of s store out i timer ≡ refused_call (call_of s store out i timer).called.answer s store out
refused_unchanged s store out i timer e =
    let n = (call_of s store out i timer).called.answer in
    let both = both_true (not (eqb n 0)) _ e in
    refused_changes_nothing s store out i timer (eqb-false n 0 (not-true (eqb n 0) both.0)) (eqb-false n 19 (not-true (eqb n 19) both.1))

-- so it leaves what is held
refused_leaves : (h : Held) (x : Given) → refused (called_with h x) ≡ true → after (called_with h x) ≡ h
refused_leaves h x e = ap after (refused_unchanged h.state h.store h.out x.input x.timer e)

-- a run without a first call that changes nothing, and one with it
without_first : (b : Bool) (h : Held) (x : Given) (rest : List Given) → refused (called_with h x) ≡ b → (run_of (after (called_with h x)) (without (after (called_with h x)) rest) ≡ run_of (after (called_with h x)) rest) → run_of h (cond b (without (after (called_with h x)) rest) (x ∷ without (after (called_with h x)) rest)) ≡ run_of (after (called_with h x)) rest
unfolding run_of
without_first true h x rest e same = rw (refused_leaves h x e) (rw (refused_leaves h x e) at same)
without_first false h x rest e same = same

pub same_end : (h : Held) (xs : List Given) → run_of h (without h xs) ≡ run_of h xs
unfolding run_of without
same_end h [] = refl
same_end h (x ∷ rest) =
    without_first (refused (called_with h x)) h x rest refl (same_end (after (called_with h x)) rest)

others_first : (b : Bool) (h : Held) (x : Given) (rest : List Given) → refused (called_with h x) ≡ b → (outcomes_of (after (called_with h x)) (without (after (called_with h x)) rest) ≡ others (after (called_with h x)) rest) → outcomes_of h (cond b (without (after (called_with h x)) rest) (x ∷ without (after (called_with h x)) rest)) ≡ cond b (others (after (called_with h x)) rest) (called_with h x ∷ others (after (called_with h x)) rest)
unfolding outcomes_of
others_first true h x rest e same = rw (refused_leaves h x e) (rw (refused_leaves h x e) at same)
others_first false h x rest e same = ap (λ (l : List Outcome). called_with h x ∷ l) same

pub same-others : (h : Held) (xs : List Given) → outcomes_of h (without h xs) ≡ others h xs
unfolding outcomes_of without others
same-others h [] = refl
same-others h (x ∷ rest) =
    others_first (refused (called_with h x)) h x rest refl (same-others (after (called_with h x)) rest)
