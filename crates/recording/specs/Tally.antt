-- The tally of accepted calls, refused calls and file bytes, each stopping at 2^32 - 1; file bytes are the n of accepted segments.
use Rattle.std.specs.Prelude.{ℕ, ◌+◌, ◌-◌, ◌^◌, min, cond, ◌&&◌, List, length, eqb}
use Rattle.header.specs.Header.{header_refusal, data_field, conf_of, fields_of}
use Rattle.packet_info.specs.Routing.{is_file_data}
use Rattle.inserting.specs.Insert.{segment_bytes}
use Rattle.recording.specs.declared.tally.Tally.{Tally}

-- a count that grows by n, and stops at 2^32 - 1
abbrev pub grown : ℕ → ℕ → ℕ
grown count n = min (count + n) (2 ^ 32 - 1)

abbrev pub no_tally : Tally
no_tally = record { accepted = 0; refused = 0; bytes = 0 }

-- after a call with that answer, for a PDU with n bytes of file data (n is 0 for any other PDU and for a poll)
unfoldable pub counted : Tally → ℕ → ℕ → Tally
counted t answer n =
    cond (eqb answer 0)
    (record { accepted = grown t.accepted 1; refused = t.refused; bytes = grown t.bytes n })
    (record { accepted = t.accepted; refused = grown t.refused 1; bytes = t.bytes })

-- how many bytes of file data a PDU with a good header carries
unfoldable pub data_bytes : List ℕ → ℕ
data_bytes pdu =
    cond (eqb (header_refusal pdu) 0 && is_file_data pdu)
    (length (segment_bytes (conf_of pdu) (fields_of pdu).segmentmetadata (data_field pdu)))
    0
