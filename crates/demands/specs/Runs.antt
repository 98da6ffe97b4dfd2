-- A run of calls over one store and one out buffer, lent to each call and untouched between them.
use Rattle.std.specs.Prelude.{ℕ, Bool, cond, not, ◌&&◌, List, [], ◌∷◌, eqb}
use Rattle.config.specs.declared.Config.{Config}
use Rattle.state.specs.State.{fresh_of}
use Rattle.state.specs.declared.State.{State}
use Rattle.dest.specs.Call.{Input, Outcome, call_of}

-- what is held between calls: the state, the store, the out buffer
pub record Held : Type 0 where
  pub state : State
  pub store : List ℕ
  pub out : List ℕ

-- a fresh receiver, with a store and an out buffer
abbrev pub fresh_held : Config → List ℕ → List ℕ → Held
fresh_held g store out = record { state = fresh_of g; store = store; out = out }

-- what a call is given: a PDU or none, and the timer flag
pub record Given : Type 0 where
  pub input : Input
  pub timer : Bool

-- one call, and what is held after it
abbrev pub called_with : Held → Given → Outcome
called_with h x = call_of h.state h.store h.out x.input x.timer

abbrev pub after : Outcome → Held
after o = record { state = o.called.state; store = o.store; out = o.out }

-- a run: what is held at its end, and what each call leaves, in order
unfoldable pub run_of : Held → List Given → Held
run_of h [] = h
run_of h (x ∷ rest) = run_of (after (called_with h x)) rest

unfoldable pub outcomes_of : Held → List Given → List Outcome
outcomes_of h [] = []
outcomes_of h (x ∷ rest) = called_with h x ∷ outcomes_of (after (called_with h x)) rest

-- a call that was refused, by another number than 19
abbrev pub refused : Outcome → Bool
refused o = not (eqb o.called.answer 0) && not (eqb o.called.answer 19)

-- the run without those calls: what its calls are given, and what they leave
unfoldable pub without : Held → List Given → List Given
without h [] = []
without h (x ∷ rest) =
    cond (refused (called_with h x)) (without (after (called_with h x)) rest) (x ∷ without (after (called_with h x)) rest)

unfoldable pub others : Held → List Given → List Outcome
others h [] = []
others h (x ∷ rest) =
    cond (refused (called_with h x)) (others (after (called_with h x)) rest) (called_with h x ∷ others (after (called_with h x)) rest)
