-- One file in a lent store: its bytes are the first ones of the store, and a segment goes to its offset.
use Rattle.std.specs.Prelude.{ℕ, ◌+◌, ◌-◌, max, Bool, cond, ◌&&◌, ◌||◌, List, length, take, replicate, ◌==◌, nat_le}
use Rattle.laws.specs.Parts.{pasted}

-- the most bytes that a store, and so a file, has
abbrev pub store_limit : ℕ
store_limit = 65535

-- the file: the store's first bytes, as many as the file's length
abbrev pub file_of : List ℕ → ℕ → List ℕ
file_of store len = take len store

-- whether a segment of n bytes at offset o fits a store of that size; an empty one fits at any offset
unfoldable pub segment_fits : ℕ → ℕ → ℕ → Bool
segment_fits size o n = n == 0 || nat_le (o + n) size

-- the store after a segment: the bytes from the old length up to the offset become 0, and the segment's bytes stand at the offset;
-- everything else is as it was. An empty segment changes nothing
unfoldable pub segment_into : List ℕ → ℕ → ℕ → List ℕ → List ℕ
segment_into store len o d =
    cond (length d == 0) store (pasted (pasted store len (replicate (o - len) 0)) o d)

-- the file's length after a segment of n bytes at offset o: the larger of the old one and o + n; an empty one changes nothing
unfoldable pub length_after : ℕ → ℕ → ℕ → ℕ
length_after len o n = cond (n == 0) len (max len (o + n))

-- what writing a segment leaves: the file's length, and the store
pub record Stored : Type 0 where
  pub len : ℕ
  pub store : List ℕ

abbrev pub stored : ℕ → List ℕ → Stored
stored len store = record { len = len; store = store }

-- the file with a segment written to it
unfoldable pub with_segment : List ℕ → ℕ → ℕ → List ℕ → Stored
with_segment store len o d = stored (length_after len o (length d)) (segment_into store len o d)

-- the segment is written where it fits the store, and the file is within the store; else both stay as they are
unfoldable pub stored_of : List ℕ → ℕ → ℕ → List ℕ → Stored
stored_of store len o d =
    cond (segment_fits (length store) o (length d) && nat_le len (length store)) (with_segment store len o d)
    (stored len store)
