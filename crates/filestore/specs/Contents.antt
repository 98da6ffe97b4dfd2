-- What a file holds after segments have arrived: at each offset the byte that the last segment over it carried.
use Rattle.std.specs.Prelude.{ℕ, ◌+◌, ◌-◌, max, Bool, true, false, cond, ◌&&◌, ◌||◌, List, [], ◌∷◌, length, ◌==◌, nat_le, nat_lt, slice_index}
use Rattle.filestore.specs.File.{file_of, segment_fits, Stored, stored, with_segment}

-- a segment: the offset of its first byte in the file, and its bytes
pub record Segment : Type 0 where
  pub offset : ℕ
  pub bytes : List ℕ

-- the offset behind its last byte
abbrev pub end_of : Segment → ℕ
end_of g = g.offset + length g.bytes

-- whether the segment has a byte for offset i of the file
abbrev pub over : Segment → ℕ → Bool
over g i = nat_le g.offset i && nat_lt i (end_of g)

-- that byte
abbrev pub byte_at : Segment → ℕ → ℕ
byte_at g i = slice_index g.bytes (i - g.offset)

-- the byte at offset i of a file of len bytes after one more segment: the segment's where it is over i; else the one that was there,
-- where the file reached so far; else 0
unfoldable pub byte_after : List ℕ → ℕ → Segment → ℕ → ℕ
byte_after store len g i = cond (over g i) (byte_at g i) (cond (nat_lt i len) (slice_index store i) 0)

-- whether one of the segments is over offset i
unfoldable pub any_over : List Segment → ℕ → Bool
any_over [] i = false
any_over (g ∷ later) i = over g i || any_over later i

-- the byte for offset i that the last segment over it carried, of segments in the order of arrival; 0 where none is over it
unfoldable pub carried : List Segment → ℕ → ℕ
carried [] i = 0
carried (g ∷ later) i = cond (any_over later i) (carried later i) (cond (over g i) (byte_at g i) 0)

-- the largest end of the segments that have bytes; 0 where none has
unfoldable pub reach : List Segment → ℕ
reach [] = 0
reach (g ∷ later) = max (cond (length g.bytes == 0) 0 (end_of g)) (reach later)

-- whether a segment fits a store of that size, and whether each of them does
abbrev pub fits_in : ℕ → Segment → Bool
fits_in size g = segment_fits size g.offset (length g.bytes)

unfoldable pub all_fit : ℕ → List Segment → Bool
all_fit size [] = true
all_fit size (g ∷ later) = fits_in size g && all_fit size later

-- a file after one segment, and after many, written one after another in the order of arrival
abbrev pub after_one : Stored → Segment → Stored
after_one f g = with_segment f.store f.len g.offset g.bytes

unfoldable pub after_all : Stored → List Segment → Stored
after_all f [] = f
after_all f (g ∷ later) = after_all (after_one f g) later

-- what the segments make of an empty file, in a store with anything in it; and the file's bytes
abbrev pub received : List ℕ → List Segment → Stored
received store segments = after_all (stored 0 store) segments

abbrev pub received_file : List ℕ → List Segment → List ℕ
received_file store segments = file_of (received store segments).store (received store segments).len
