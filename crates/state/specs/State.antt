-- The receiver's state: configuration, transfer, last id, and the names of the running transfer.
use Rattle.std.specs.Prelude.{ℕ, Bool, cond, not, List, length, take, replicate, Option, Some, None}
use Rattle.codes.specs.Refusals.{Answer, unless}
use Rattle.laws.specs.Parts.{filled}
use Rattle.config.specs.Config.{config_broken}
use Rattle.config.specs.declared.Config.{Config}
use Rattle.transfer.specs.Transfer.{is_idle, idle_after}
use Rattle.transfer.specs.declared.TransactionId.{TransactionId}
use Rattle.transfer.specs.declared.TransferState.{TransferState}
use Rattle.state.specs.declared.Name.{Name}
use Rattle.state.specs.declared.State.{State}

-- the most bytes that a name has
abbrev pub name_size : ℕ
name_size = 255

-- no name
unfoldable pub no_name : Name
no_name = record { bytes = replicate name_size 0; len = 0 }

-- a name from its bytes: they stand first, and zeros behind them (the first 255 of a longer list)
unfoldable pub name_of : List ℕ → Name
name_of l = record { bytes = filled (replicate name_size 0) (take name_size l); len = length (take name_size l) }

-- no transfer was there yet
unfoldable pub no_id : Option TransactionId
no_id = None

abbrev pub last_of : TransactionId → Option TransactionId
last_of i = Some i

-- a fresh state
unfoldable pub fresh_of : Config → State
fresh_of g = record { config = g; transfer = idle_after 0; last = no_id; source = no_name; dest = no_name }

-- whether a transfer runs
abbrev pub busy : State → Bool
busy s = not (is_idle s.transfer.step)

-- the state with its transfer in another condition: where that is over, its names are gone
unfoldable pub settled : State → TransferState → State
settled s t =
    record {
      config = s.config;
      transfer = t;
      last = s.last;
      source = cond (is_idle t.step) no_name s.source;
      dest = cond (is_idle t.step) no_name s.dest;
    }

-- the state with a transfer that starts
unfoldable pub begun : State → TransferState → TransactionId → List ℕ → List ℕ → State
begun s t i source dest =
    record { config = s.config; transfer = t; last = last_of i; source = name_of source; dest = name_of dest }

-- a fresh state from a configuration, or 21 where that is broken
abbrev pub fresh_read : Config → Answer State
fresh_read g = unless (cond (config_broken g) 21 0) (fresh_of g)
