-- The file data body (CCSDS 727.0-B-5, 5.3): with the segment metadata flag, a byte whose low 6 bits count the metadata bytes after it;
-- a size-wide offset; data to the end, which may be empty.
use Rattle.std.specs.Prelude.{ℕ, ◌+◌, ◌%◌, Bool, cond, List, length, get_or, drop, ltb}
use Rattle.codes.specs.Refusals.{Answer, Good, Refused}
use Rattle.numbers.specs.Numbers.{number_at}
use Rattle.bodies.specs.Size.{size_bytes}
use Rattle.bodies.specs.declared.file_data.FileDataPdu.{FileDataPdu}

-- where the offset stands: behind the segment metadata, where there are any
abbrev pub offset_at : List ℕ → Bool → ℕ
offset_at s metadata = cond metadata (1 + get_or s 0 0 % 64) 0

-- where the data stand
unfoldable pub data_at : List ℕ → Bool → Bool → ℕ
data_at s large metadata = offset_at s metadata + size_bytes large

-- 14: the offset, or what stands before it, is not whole
unfoldable pub malformed : List ℕ → Bool → Bool → Bool
malformed s large metadata = ltb (length s) (data_at s large metadata)

-- the body's fields; the data are given by their place, and go to the end
unfoldable pub fields_of : List ℕ → Bool → Bool → FileDataPdu
fields_of s large metadata =
    record { offset = number_at s (offset_at s metadata) (size_bytes large); segmentat = data_at s large metadata }

-- what reading a file data body answers
unfoldable pub file_data_of : List ℕ → Bool → Bool → Answer FileDataPdu
file_data_of s large metadata =
    cond (malformed s large metadata) (Refused 14) (Good (fields_of s large metadata))

-- the segment that stands from a place to the end
unfoldable pub segment_of : List ℕ → ℕ → List ℕ
segment_of s at = drop at s
