-- Runs that meet demand 3's premises: check limit 3, and the segment comes late or not at all.
use Rattle.std.specs.Prelude.{ℕ, Bool, true, false, List, [], ◌∷◌, replicate}
use Rattle.codes.specs.Codes.{ignore_error, abandon_transaction}
use Rattle.config.specs.declared.Config.{Config}
use Rattle.dest.specs.Call.{poll, packet, Outcome}
use Rattle.promises.specs.Vectors.{config_of, metadata, segment, eof_good}
use Rattle.demands.specs.Runs.{Held, Given, fresh_held}
use Rattle.demands.specs.Seen.{ends}

abbrev pub unflagged_pdu : List ℕ → Given
unflagged_pdu pdu = record { input = packet pdu; timer = false }

-- the EOF, and an expiry, with the timer flag
abbrev pub flagged_eof : Given
flagged_eof = record { input = packet eof_good; timer = true }

abbrev pub expiry : Given
expiry = record { input = poll; timer = true }

-- a fresh receiver with check limit 3 (W1's otherwise)
unfoldable pub fresh3 : Held
fresh3 = fresh_held (config_of 3) (replicate 16 0) (replicate 40 0)

-- the same, with a limit fault that abandons
unfoldable pub abandoning : Config
abandoning =
    let g = config_of 3 in
    record {
      local = g.local;
      handlers = 1 ∷ 1 ∷ 1 ∷ 1 ∷ ignore_error ∷ 1 ∷ 1 ∷ 1 ∷ abandon_transaction ∷ ignore_error ∷ [];
      segmentrecv = g.segmentrecv;
      eofrecv = g.eofrecv;
      entries = g.entries;
      table = g.table;
    }

unfoldable pub abandons3 : Held
abandons3 = fresh_held abandoning (replicate 16 0) (replicate 40 0)

-- late data: the EOF's own call is the first that is counted, the segment comes, and the expiry is the second
unfoldable pub late : List Given
late = unflagged_pdu metadata ∷ flagged_eof ∷ unflagged_pdu segment ∷ expiry ∷ []

-- no data: two expiries are the second and the third
unfoldable pub never : List Given
never = unflagged_pdu metadata ∷ flagged_eof ∷ expiry ∷ expiry ∷ []

-- up to the third
unfoldable pub nearly : List Given
nearly = unflagged_pdu metadata ∷ flagged_eof ∷ expiry ∷ []

-- at which calls of a run the transfer ends
unfoldable pub endings : List Outcome → List Bool
endings [] = []
endings (o ∷ rest) = ends o ∷ endings rest
