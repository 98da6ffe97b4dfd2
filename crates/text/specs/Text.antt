-- What the recording program prints, as bytes of ASCII: numbers in decimal, bytes in hex, and each of its lines.
use Rattle.std.specs.Prelude.{ℕ, zero, suc, ◌+◌, ◌-◌, ◌/◌, ◌%◌, cond, List, [], ◌∷◌, ◌++◌, ltb, leb, eqb, length, replicate}
use Rattle.laws.specs.Parts.{pasted}
use Rattle.text.specs.declared.Text.{Text}

-- the ASCII code of a digit below 16: '0' to '9', then 'a' to 'f'
abbrev pub digit : ℕ → ℕ
digit d = cond (ltb d 10) (48 + d) (87 + d)

-- the decimal digits of a number that has at most that many, with no zeros in front
abbrev pub digits_from : ℕ → ℕ → List ℕ
digits_from zero n = []
digits_from (suc places) n = cond (ltb n 10) (digit n ∷ []) (digits_from places (n / 10) ++ (digit (n % 10) ∷ []))

-- a number below 2^64 has at most 20
unfoldable pub decimal : ℕ → List ℕ
decimal n = digits_from 20 n

-- two hex digits for each byte
abbrev pub hex_of : List ℕ → List ℕ
hex_of [] = []
hex_of (b ∷ rest) = digit (b / 16) ∷ digit (b % 16) ∷ hex_of rest

-- a space, and the end of a line
abbrev pub blank : List ℕ
blank = 32 ∷ []

abbrev pub end : List ℕ
end = 10 ∷ []

-- 'RXT 1'
abbrev pub mark_line : List ℕ
mark_line = 82 ∷ 88 ∷ 84 ∷ 32 ∷ 49 ∷ end

-- a record's number, its answer and the PDUs sent
unfoldable pub record_line : ℕ → ℕ → ℕ → List ℕ
record_line number answer sent = decimal number ++ (blank ++ (decimal answer ++ (blank ++ (decimal sent ++ end))))

-- 'pdu ' and a sent PDU's bytes
unfoldable pub pdu_line : List ℕ → List ℕ
pdu_line pdu = (112 ∷ 100 ∷ 117 ∷ blank) ++ (hex_of pdu ++ end)

-- what a record prints: d is the PDU that was sent, or empty
unfoldable pub record_text : ℕ → ℕ → List ℕ → List ℕ
record_text number answer d =
    cond (eqb (length d) 0) (record_line number answer 0) (record_line number answer 1 ++ pdu_line d)

-- 'bad ' and an offset
unfoldable pub bad_line : ℕ → List ℕ
bad_line at = (98 ∷ 97 ∷ 100 ∷ blank) ++ (decimal at ++ end)

-- 'tally ', accepted calls, refused calls, file bytes
unfoldable pub tally_line : ℕ → ℕ → ℕ → List ℕ
tally_line accepted refused bytes =
    (116 ∷ 97 ∷ 108 ∷ 108 ∷ 121 ∷ blank) ++ (decimal accepted ++ (blank ++ (decimal refused ++ (blank ++ (decimal bytes ++ end)))))

-- a text in fixed bytes
abbrev pub text_size : ℕ
text_size = 128

abbrev pub text_of : List ℕ → Text
text_of l = record { bytes = l ++ replicate (text_size - length l) 0; len = length l }

-- the most bytes of a PDU that a text shows
abbrev pub pdu_size : ℕ
pdu_size = 40

-- the most bytes whose hex digits are written in one piece
abbrev pub block_size : ℕ
block_size = 64

-- what stands on a sheet after a text was laid on it at an index, and the index behind it; where less than a text's room is left there, nothing is laid
pub record Laid : Type 0 where
  pub next : ℕ
  pub sheet : List ℕ

abbrev pub laid : ℕ → List ℕ → Laid
laid n sheet = record { next = n; sheet = sheet }

unfoldable pub laid_of : List ℕ → ℕ → List ℕ → Laid
laid_of sheet at l = cond (leb (at + text_size) (length sheet)) (laid (at + length l) (pasted sheet at l)) (laid at sheet)
