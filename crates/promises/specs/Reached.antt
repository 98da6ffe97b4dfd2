-- The states that calls lead to.
use Rattle.std.specs.Prelude.{ℕ, ◌<◌, ◌≡◌, Bool, false, List, get_or}
use Rattle.config.specs.Config.{config_broken}
use Rattle.config.specs.declared.Config.{Config}
use Rattle.state.specs.State.{fresh_of}
use Rattle.state.specs.declared.State.{State}
use Rattle.dest.specs.Call.{Input, poll, packet, call_of}

-- the elements of a PDU are bytes, as those of any slice of bytes are
abbrev pub Bytes : List ℕ → Type 0
Bytes l = (k : ℕ) → get_or l k 0 < 256

abbrev pub InputBytes : Input → Type 0
InputBytes poll = Unit {0}
InputBytes (packet pdu) = Bytes pdu

-- a fresh state of a configuration that is not broken, and what any call leaves of such a state, whatever buffers it is lent
pub data Reached : State → Type 0 where
  fresh : (g : Config) → config_broken g ≡ false → Reached (fresh_of g)
  call : (s : State) (store out : List ℕ) (i : Input) (timer : Bool) → InputBytes i → Reached s → Reached (call_of s store out i timer).called.state
