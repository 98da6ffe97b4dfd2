-- A record: kind (0 poll, 1 PDU), timer (0 or 1), and for kind 1 a length (2) and bytes.
use Rattle.std.specs.Prelude.{ℕ, ◌+◌, Bool, cond, ◌&&◌, ◌||◌, List, length, leb, ltb, eqb}
use Rattle.numbers.specs.Numbers.{number_at}
use Rattle.recording.specs.Settings.{byte_at}
use Rattle.recording.specs.declared.record.RecordRead.{RecordRead}
use Rattle.recording.specs.declared.record.RecordRead.TheVariants.{End, Bad, Poll, Packet}

abbrev pub kind : List ℕ → ℕ
kind s = byte_at s 0

abbrev pub timer : List ℕ → Bool
timer s = eqb (byte_at s 1) 1

abbrev pub pdu_length : List ℕ → ℕ
pdu_length s = number_at s 2 2

-- a record that is not cut off, with kind and timer 0 or 1
unfoldable pub record_whole : List ℕ → Bool
record_whole s =
    leb 2 (length s)
    && (leb (kind s) 1
    && (leb (byte_at s 1) 1 && (eqb (kind s) 0 || (leb 4 (length s) && leb (4 + pdu_length s) (length s)))))

-- what stands at the start of s
unfoldable pub record_of : List ℕ → RecordRead
record_of s =
    cond (eqb (length s) 0) End
    (cond (record_whole s) (cond (eqb (kind s) 0) (Poll (timer s)) (Packet (timer s) (pdu_length s))) Bad)

-- whether what stands at the start of s is told by the bytes at hand: a whole record, or a kind or timer above 1; else more bytes may make another of it
unfoldable pub record_settled : List ℕ → Bool
record_settled s = (leb 1 (length s) && ltb 1 (kind s)) || ((leb 2 (length s) && ltb 1 (byte_at s 1)) || record_whole s)
