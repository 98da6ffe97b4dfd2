-- The modular checksum of CCSDS 727.0-B-5 (4.2.2, B.2): the sum modulo 2^32 of the file's four-byte big-endian words, the last one
-- padded with zeros at its end.
use Rattle.std.specs.Prelude.{ℕ, ◌+◌, ◌*◌, ◌%◌, ◌^◌, List, [], ◌∷◌}

-- a word of four bytes
abbrev pub word : ℕ → ℕ → ℕ → ℕ → ℕ
word a b c d = ((a * 256 + b) * 256 + c) * 256 + d

-- the sum of the words
unfoldable pub total : List ℕ → ℕ
total [] = 0
total (a ∷ []) = word a 0 0 0
total (a ∷ b ∷ []) = word a b 0 0
total (a ∷ b ∷ c ∷ []) = word a b c 0
total (a ∷ b ∷ c ∷ d ∷ rest) = word a b c d + total rest

-- the checksum of a file
unfoldable pub checksum_of : List ℕ → ℕ
checksum_of file = total file % 2 ^ 32
