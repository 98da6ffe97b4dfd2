-- A Metadata PDU: its refusals in 01's order, and the transfer that it starts.
use Rattle.std.specs.Prelude.{Some}
use Rattle.transfer.specs.Transfer.{Note}
use Rattle.std.specs.Prelude.{ℕ, Bool, not, List, ◌∷◌}
use Rattle.laws.specs.First.{first_of}
use Rattle.header.specs.declared.CommonPduConfig.{CommonPduConfig}
use Rattle.bodies.specs.Metadata.{malformed}
use Rattle.transfer.specs.Transfer.{id_of, started_of}
use Rattle.transfer.specs.declared.TransferState.{TransferState}
use Rattle.transfer.specs.declared.Indication.{Indication}
use Rattle.state.specs.State.{busy, begun}
use Rattle.state.specs.declared.State.{State}
use Rattle.inserting.specs.Metadata.{body_of, source_name, dest_name, rest_order}

-- Metadata: 11, 10 (mode), 14 (options included), 15, 10 (both empty), 16, 17, 18, 10 (option)
unfoldable pub metadata_order : State → CommonPduConfig → List ℕ → List (ℕ × Bool)
metadata_order s c d =
    (11, busy s)
    ∷ (10, not c.unacknowledged)
    ∷ (14, malformed d c.largefile)
    ∷ rest_order s.config c.source d (body_of c d)

unfoldable pub metadata_refusal : State → CommonPduConfig → List ℕ → ℕ
metadata_refusal s c d = first_of (metadata_order s c d)

-- the transfer that starts, and the state with it
unfoldable pub start_of : CommonPduConfig → List ℕ → TransferState
start_of c d = started_of c (body_of c d).closure (body_of c d).checksumtype

unfoldable pub begun_of : State → CommonPduConfig → List ℕ → State
begun_of s c d = begun s (start_of c d) (id_of (start_of c d)) (source_name c d) (dest_name c d)

-- the Metadata indication
unfoldable pub metadata_note : CommonPduConfig → List ℕ → Note
metadata_note c d = Some (Indication.Metadata (id_of (start_of c d)) (body_of c d).size)
