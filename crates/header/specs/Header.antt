-- The PDU header of CCSDS 727.0-B-5, 5.1, as document 01 gives it under 'PDU bytes': its fields by their places, and its refusals
-- in 01's order. Assumes nothing.
use Rattle.std.specs.Prelude.{ℕ, ◌+◌, ◌/◌, ◌%◌, Bool, not, ◌&&◌, List, [], ◌∷◌, length, get_or, ltb, eqb}
use Rattle.codes.specs.Refusals.{Answer, unless}
use Rattle.laws.specs.Bits.{flag}
use Rattle.laws.specs.First.{first_of}
use Rattle.laws.specs.Parts.{stretch}
use Rattle.numbers.specs.Numbers.{ok_width, width_of, number_at}
use Rattle.header.specs.declared.CommonPduConfig.{CommonPduConfig}
use Rattle.header.specs.declared.PduHeader.{PduHeader}

-- byte 0, from the top: version 3 bits, type (1 file data), direction (1 to sender), mode (1 unacknowledged), CRC, large file
abbrev pub first_byte : List ℕ → ℕ
first_byte s = get_or s 0 0

abbrev pub version : List ℕ → ℕ
version s = first_byte s / 32

-- bytes 1-2: data field length
abbrev pub data_length : List ℕ → ℕ
data_length s = number_at s 1 2

-- byte 3: segmentation control, entity width minus 1 (3 bits), segment metadata flag, sequence width minus 1 (3 bits)
abbrev pub widths_byte : List ℕ → ℕ
widths_byte s = get_or s 3 0

abbrev pub entity_width : List ℕ → ℕ
entity_width s = widths_byte s / 16 % 8 + 1

abbrev pub sequence_width : List ℕ → ℕ
sequence_width s = widths_byte s % 8 + 1

-- then source id, sequence number, destination id
abbrev pub sequence_at : List ℕ → ℕ
sequence_at s = 4 + entity_width s

abbrev pub destination_at : List ℕ → ℕ
destination_at s = sequence_at s + sequence_width s

-- where the header ends and the data field begins, and where the data field ends
unfoldable pub header_end : List ℕ → ℕ
header_end s = destination_at s + entity_width s

unfoldable pub data_end : List ℕ → ℕ
data_end s = header_end s + data_length s

-- the data field, as a stretch of the PDU
unfoldable pub data_field : List ℕ → List ℕ
data_field s = stretch s (header_end s) (data_end s)

-- the header's refusals in 01's order: 3 (four bytes), 4, 5, 6, 3 (rest)
unfoldable pub header_order : List ℕ → List (ℕ × Bool)
header_order s =
    (3, ltb (length s) 4)
    ∷ (4, not (eqb (version s) 1))
    ∷ (5, not (ok_width (entity_width s) && ok_width (sequence_width s)))
    ∷ (6, flag 1 (first_byte s))
    ∷ (3, ltb (length s) (data_end s))
    ∷ []

unfoldable pub header_refusal : List ℕ → ℕ
header_refusal s = first_of (header_order s)

-- what later PDUs of the transfer, and the Finished PDU, have in common with this header
unfoldable pub conf_of : List ℕ → CommonPduConfig
conf_of s =
    record {
      unacknowledged = flag 2 (first_byte s);
      largefile = flag 0 (first_byte s);
      idwidth = width_of (entity_width s);
      seqwidth = width_of (sequence_width s);
      source = number_at s 4 (entity_width s);
      seqnum = number_at s (sequence_at s) (sequence_width s);
      dest = number_at s (destination_at s) (entity_width s);
    }

-- the header's fields
unfoldable pub fields_of : List ℕ → PduHeader
fields_of s =
    record {
      filedata = flag 4 (first_byte s);
      segmentmetadata = flag 3 (widths_byte s);
      conf = conf_of s;
      headerend = header_end s;
      dataend = data_end s;
    }

-- what reading a header answers
unfoldable pub header_of : List ℕ → Answer PduHeader
header_of s = unless (header_refusal s) (fields_of s)
