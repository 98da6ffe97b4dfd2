-- The busy steps leave a transfer in the receiving step as it is, whatever the timer flag: so in a Metadata's own call, and after file data
-- (FileData.antt).
use Rattle.std.specs.Prelude.{None}
use Prim.Native.Nat.{ℕ}
use mathlib.Core.Path.{◌≡◌, refl}
use mathlib.Core.Bool.{Bool, true, false}
use mathlib.Core.List.{List}
use Rattle.header.specs.declared.CommonPduConfig.{CommonPduConfig}
use Rattle.transfer.specs.Transfer.{is_idle, is_receiving, is_waiting, is_completion, started_of}
use Rattle.steps.specs.Busy.{left, waited_of, ended_of, busy_of}
use Rattle.transfer.specs.declared.TransactionStep.{TransactionStep}
use Rattle.transfer.specs.declared.TransactionStep.TheVariants.{Idle, Receiving, Waiting, Completion}
use Rattle.transfer.specs.declared.TransferState.{TransferState}
use Rattle.steps.specs.declared.Faults.{Faults}
use Rattle.steps.specs.declared.Remote.{Remote}

-- a receiving step is no other
pub record Alone (x : TransactionStep) : Type 0 where
  pub idle : is_idle x ≡ false
  pub waiting : is_waiting x ≡ false
  pub completion : is_completion x ≡ false

pub alone : (x : TransactionStep) → is_receiving x ≡ true → Alone x
alone Idle e = record { idle = cc; waiting = refl; completion = refl }
alone Receiving e = record { idle = refl; waiting = refl; completion = refl }
alone Waiting e = record { idle = refl; waiting = cc; completion = refl }
alone Completion e = record { idle = refl; waiting = refl; completion = cc }

pub receiving-rests : (f : Faults) (r : Remote) (t : TransferState) (store out : List ℕ) (timer : Bool) → is_receiving t.step ≡ true → busy_of f r t store out timer ≡ left (record { state = t; checked = None; finished = None; sent = 0 }) out
unfolding busy_of waited_of ended_of
receiving-rests f r t store out true e = let a = alone t.step e in rw (a.waiting, a.completion)
receiving-rests f r t store out false e = let a = alone t.step e in rw a.completion

-- a Metadata's own call
pub started_rests : (f : Faults) (r : Remote) (c : CommonPduConfig) (closure : Bool) (kind : ℕ) (store out : List ℕ) (timer : Bool) → busy_of f r (started_of c closure kind) store out timer ≡ left (record { state = started_of c closure kind; checked = None; finished = None; sent = 0 }) out
unfolding started_of
started_rests f r c closure kind store out timer = receiving-rests f r (started_of c closure kind) store out timer refl
