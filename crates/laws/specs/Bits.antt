-- Fields of a byte.
use Rattle.std.specs.Prelude.{ℕ, ◌/◌, ◌%◌, ◌^◌, Bool, eqb}

-- whether bit k of a byte is set, the lowest being bit 0
abbrev pub flag : ℕ → ℕ → Bool
flag k b = eqb (b / 2 ^ k % 2) 1
