-- A size on the link: 4 bytes, or 8 with large file.
use Rattle.std.specs.Prelude.{ℕ, Bool, cond}
use Rattle.numbers.specs.Numbers.{bytes_of}
use Rattle.numbers.specs.declared.Width.{Width}
use Rattle.numbers.specs.declared.Width.TheVariants.{Four, Eight}

-- the width of a size
abbrev pub size_width : Bool → Width
size_width large = cond large Eight Four

-- how many bytes a size takes
abbrev pub size_bytes : Bool → ℕ
size_bytes large = bytes_of (size_width large)
