-- The Finished PDU (CCSDS 727.0-B-5, 5.2.3) as document 01 gives it: its bytes, and what writing it leaves.
use Rattle.std.specs.Prelude.{ℕ, ◌+◌, ◌*◌, ◌-◌, ◌%◌, Bool, cond, ◌||◌, List, [], ◌∷◌, ◌++◌, length, ltb, eqb}
use Rattle.codes.specs.Codes.{no_error, unsupported_checksum_type}
use Rattle.codes.specs.Refusals.{Answer}
use Rattle.laws.specs.Parts.{filled}
use Rattle.numbers.specs.Numbers.{bytes_of, big_endian}
use Rattle.header.specs.declared.CommonPduConfig.{CommonPduConfig}
use Rattle.finished.specs.declared.EntityId.{EntityId}
use Rattle.finished.specs.declared.FinishedPdu.{FinishedPdu}

-- the least size of the out buffer: a Finished PDU takes at most so many bytes
abbrev pub out_size : ℕ
out_size = 40

-- a flag as a bit
abbrev pub bit : Bool → ℕ
bit b = cond b 1 0

-- byte 0: version 001, type 0, direction 1, mode, CRC 0, large file; byte 3: segmentation control 0, entity width minus 1, segment
-- metadata flag 0, sequence width minus 1
abbrev pub first_byte : CommonPduConfig → ℕ
first_byte conf = 40 + bit conf.unacknowledged * 4 + bit conf.largefile

abbrev pub widths_byte : CommonPduConfig → ℕ
widths_byte conf = (bytes_of conf.idwidth - 1) * 16 + (bytes_of conf.seqwidth - 1)

-- source id, sequence number and destination id, at their widths
unfoldable pub id_bytes : CommonPduConfig → List ℕ
id_bytes conf =
    big_endian (bytes_of conf.idwidth) conf.source
    ++ (big_endian (bytes_of conf.seqwidth) conf.seqnum
    ++ big_endian (bytes_of conf.idwidth) conf.dest)

-- the header: as the Metadata's, with direction 1, before a data field of n bytes
unfoldable pub header_bytes : CommonPduConfig → ℕ → List ℕ
header_bytes conf n =
    (first_byte conf ∷ []) ++ (big_endian 2 n ++ ((widths_byte conf ∷ []) ++ id_bytes conf))

-- condition (4 bits), spare 0, incomplete (1 bit), status (2 bits: 0 discarded, 2 retained)
abbrev pub flags_byte : FinishedPdu → ℕ
flags_byte f = f.condition % 16 * 16 + cond f.complete 0 4 + cond f.retained 2 0

-- whether no fault location is given: the condition is 0 or 11
abbrev pub unlocated : FinishedPdu → Bool
unlocated f = eqb (f.condition % 16) no_error || eqb (f.condition % 16) unsupported_checksum_type

-- the fault location: 6, width, local id
abbrev pub entity_tlv : EntityId → List ℕ
entity_tlv local =
    (6 ∷ []) ++ ((bytes_of local.width ∷ []) ++ big_endian (bytes_of local.width) local.value)

-- what of it is written: all, or nothing where none is given
unfoldable pub location : FinishedPdu → EntityId → List ℕ
location f local = cond (unlocated f) [] (entity_tlv local)

-- the data field: 5, the flags, and the fault location unless the condition is 0 or 11
unfoldable pub body_bytes : FinishedPdu → EntityId → List ℕ
body_bytes f local = (5 ∷ []) ++ ((flags_byte f ∷ []) ++ location f local)

-- the whole PDU
unfoldable pub finished_bytes : CommonPduConfig → FinishedPdu → EntityId → List ℕ
finished_bytes conf f local = header_bytes conf (length (body_bytes f local)) ++ body_bytes f local

-- what writing leaves: the answer, and the out buffer
pub record Sent : Type 0 where
  pub answer : Answer ℕ
  pub out : List ℕ

abbrev pub sent : Answer ℕ → List ℕ → Sent
sent a out = record { answer = a; out = out }

-- 2 for an out buffer below the least size, which stays; else the PDU fills the start of it, and the rest stays
unfoldable pub finished_of : List ℕ → CommonPduConfig → FinishedPdu → EntityId → Sent
finished_of out conf f local =
    cond (ltb (length out) out_size) (sent (Answer.Refused 2) out)
    (sent (Answer.Good (length (finished_bytes conf f local))) (filled out (finished_bytes conf f local)))
