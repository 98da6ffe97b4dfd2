-- Numbers on the link: 1, 2, 4 or 8 bytes, the most significant byte first (CCSDS 727.0-B-5, 5.1.8).
use Rattle.std.specs.Prelude.{ℕ, zero, suc, ◌+◌, ◌*◌, ◌/◌, ◌%◌, Bool, cond, ◌||◌, List, [], ◌∷◌, ◌++◌, Result, Ok, Err, take, drop, eqb}
use Rattle.numbers.specs.declared.NoWidth.{NoWidth}
use Rattle.numbers.specs.declared.Width.{Width}
use Rattle.numbers.specs.declared.Width.TheVariants.{One, Two, Four, Eight}

-- how many bytes a number of that width takes
abbrev pub bytes_of : Width → ℕ
bytes_of One = 1
bytes_of Two = 2
bytes_of Four = 4
bytes_of Eight = 8

-- whether a number may be that many bytes wide: 1, 2, 4 or 8
unfoldable pub ok_width : ℕ → Bool
ok_width n = eqb n 1 || (eqb n 2 || (eqb n 4 || eqb n 8))

-- the width of that many bytes (of a count that is none of the four, Eight)
unfoldable pub width_of : ℕ → Width
width_of n = cond (eqb n 1) One (cond (eqb n 2) Two (cond (eqb n 4) Four Eight))

-- the width of that many bytes, or that there is none
unfoldable pub width_read : ℕ → Result Width NoWidth
width_read n = cond (ok_width n) (Ok (width_of n)) (Err (record { 0 = n }))

-- the number that the bytes say after those that said acc
unfoldable pub be_from : ℕ → List ℕ → ℕ
be_from acc [] = acc
be_from acc (b ∷ rest) = be_from (acc * 256 + b) rest

-- the number that the bytes say, most significant first
unfoldable pub be_of : List ℕ → ℕ
be_of bytes = be_from 0 bytes

-- the number that the n bytes at an index say (fewer where the list ends before)
unfoldable pub number_at : List ℕ → ℕ → ℕ → ℕ
number_at s at n = be_of (take n (drop at s))

-- the n low bytes of a number, most significant first
unfoldable pub big_endian : ℕ → ℕ → List ℕ
big_endian zero v = []
big_endian (suc n) v = big_endian n (v / 256) ++ (v % 256 ∷ [])
