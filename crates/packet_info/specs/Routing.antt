-- Which PDUs are for this receiver (CCSDS 727.0-B-5, 4.5, and document 01): each refusal's condition, and 01's order.
-- Assumes nothing.
use Rattle.std.specs.Prelude.{ℕ, ◌/◌, Bool, true, false, cond, not, ◌&&◌, ◌||◌, List, [], ◌∷◌, ◌++◌, length, get_or, ltb, eqb}
use Rattle.codes.specs.Refusals.{Answer, unless}
use Rattle.laws.specs.Bits.{flag}
use Rattle.laws.specs.First.{first_of}
use Rattle.header.specs.Header.{first_byte, header_order, data_field, conf_of, fields_of}
use Rattle.packet_info.specs.declared.Target.{Target}
use Rattle.packet_info.specs.declared.Target.TheVariants.{FileData, Metadata, Eof}
use Rattle.packet_info.specs.declared.PacketInfo.{PacketInfo}

-- whether a number is one of a list
abbrev pub among : ℕ → List ℕ → Bool
among n [] = false
among n (k ∷ rest) = eqb n k || among n rest

-- a directive PDU's data field begins with the directive's number: 4 EOF, 5 Finished, 6 ACK, 7 Metadata, 8 NAK, 9 Prompt, 12 Keep Alive
abbrev pub directive : List ℕ → ℕ
directive d = get_or d 0 0

abbrev pub directives : List ℕ
directives = 4 ∷ 5 ∷ 6 ∷ 7 ∷ 8 ∷ 9 ∷ 12 ∷ []

abbrev pub is_ack : List ℕ → Bool
is_ack d = eqb (directive d) 6

-- ACK's acked code is the high half of its second byte
abbrev pub acked : List ℕ → ℕ
acked d = get_or d 1 0 / 16

-- 7: an empty data field, an unknown directive, an ACK without second byte or of neither EOF nor Finished
abbrev pub unknown : List ℕ → Bool
unknown d =
    eqb (length d) 0
    || (not (among (directive d) directives)
    || (is_ack d && (ltb (length d) 2 || not (among (acked d) (4 ∷ 5 ∷ [])))))

-- 8: NAK, Finished, Keep Alive, ACK of EOF: for the sender
abbrev pub for_sender : List ℕ → Bool
for_sender d = among (directive d) (8 ∷ 5 ∷ 12 ∷ []) || (is_ack d && eqb (acked d) 4)

-- 10: Prompt, ACK of Finished
abbrev pub not_supported : List ℕ → Bool
not_supported d = eqb (directive d) 9 || (is_ack d && eqb (acked d) 5)

-- the refusals of a directive by its data field, in 01's order
unfoldable pub directive_order : List ℕ → List (ℕ × Bool)
directive_order d = (7, unknown d) ∷ (8, for_sender d) ∷ (10, not_supported d) ∷ []

unfoldable pub directive_refusal : List ℕ → ℕ
directive_refusal d = first_of (directive_order d)

-- the refusal of an ACK by its data field
unfoldable pub ack_refusal : List ℕ → ℕ
ack_refusal d =
    first_of
    ((7, ltb (length d) 2 || not (among (acked d) (4 ∷ 5 ∷ []))) ∷ (8, eqb (acked d) 4) ∷ (10, eqb (acked d) 5) ∷ [])

-- file data have no directive: nothing of the above is looked at
abbrev pub kind_order : Bool → List ℕ → List (ℕ × Bool)
kind_order filedata d = cond filedata [] (directive_order d)

-- whether a PDU carries file data
abbrev pub is_file_data : List ℕ → Bool
is_file_data s = flag 4 (first_byte s)

-- which body
abbrev pub is_metadata : Target → Bool
is_metadata FileData = false
is_metadata Metadata = true
is_metadata Eof = false

abbrev pub is_eof : Target → Bool
is_eof FileData = false
is_eof Metadata = false
is_eof Eof = true

-- 9: the destination id, as a value, is not the local id
abbrev pub foreign : List ℕ → ℕ → Bool
foreign s local = not (eqb (conf_of s).dest local)

-- what is looked at before a PDU goes to the handler, in 01's order: the header's refusals, 7, 8, 10 (Prompt, ACK), 9
unfoldable pub packet_order : List ℕ → ℕ → List (ℕ × Bool)
packet_order s local = header_order s ++ (kind_order (is_file_data s) (data_field s) ++ ((9, foreign s local) ∷ []))

unfoldable pub packet_refusal : List ℕ → ℕ → ℕ
packet_refusal s local = first_of (packet_order s local)

-- which body a PDU that is not refused has
abbrev pub kind_of : Bool → List ℕ → Target
kind_of filedata d = cond filedata FileData (cond (eqb (directive d) 7) Metadata Eof)

-- what a PDU's kind, its data field with it, decides
unfoldable pub route_of : Bool → List ℕ → Answer Target
route_of filedata d = unless (first_of (kind_order filedata d)) (kind_of filedata d)

-- a PDU that is taken: the kind of its body, and its header's fields
abbrev pub info_of : List ℕ → PacketInfo
info_of s = record { target = kind_of (is_file_data s) (data_field s); header = fields_of s }

-- what looking at a PDU answers
unfoldable pub packet_of : List ℕ → ℕ → Answer PacketInfo
packet_of s local = unless (packet_refusal s local) (info_of s)
