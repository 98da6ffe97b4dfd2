-- How the checksum is summed byte by byte: the four bytes of a word count 2^24, 2^16, 2^8 and 1.
use Rattle.std.specs.Prelude.{ℕ, ◌/◌, ◌^◌, cond, ◌==◌}

-- what the next byte counts, after a byte that counts w
unfoldable pub weight_after : ℕ → ℕ
weight_after w = cond (w == 1) (2 ^ 24) (w / 256)
