-- The checksum's bounds, and the sum of a file's words byte by byte: each byte counts by its place in its word.
use Rattle.std.proofs.Common.{◌≡◌, ℕ, ◌+◌, ◌*◌, ◌/◌, ◌^◌, ◌<◌, ◌≤◌, eqb, List, [], ◌∷◌, length, get_or, drop, refl, mul-le-mul_right, arith, lit≤}
use Rattle.laws.proofs.Lists.{drop_one}
use Rattle.laws.proofs.Tests.{by_cond}
use Rattle.filestore.specs.Checksum.{total, checksum_of}
use Rattle.filestore.specs.Weights.{weight_after}

-- the checksum of an empty file is 0, and any is a number of 32 bits
pub checksum_none : checksum_of [] ≡ 0
unfolding checksum_of total
checksum_none = refl

pub checksum_below : (l : List ℕ) → checksum_of l < 2 ^ 32
unfolding checksum_of
checksum_below l = omega arith

-- what the bytes sum to where the first of them counts w
unfoldable pub weighed : ℕ → List ℕ → ℕ
weighed w [] = 0
weighed w (b ∷ rest) = w * b + weighed (weight_after w) rest

-- the first byte of a file counts 2^24
pub total-weighed : (l : List ℕ) → total l ≡ weighed (2 ^ 24) l
unfolding total weighed weight_after
total-weighed [] = refl
total-weighed (a ∷ []) = omega arith
total-weighed (a ∷ b ∷ []) = omega arith
total-weighed (a ∷ b ∷ c ∷ []) = omega arith
total-weighed (a ∷ b ∷ c ∷ d ∷ rest) = omega (arith, total-weighed rest)

-- one byte more
pub weighed_one : (w : ℕ) (l : List ℕ) (i : ℕ) → i < length l → weighed w (drop i l) ≡ w * get_or l i 0 + weighed (weight_after w) (drop (i + 1) l)
unfolding weighed
weighed_one w l i h = rw (drop_one l i h)

-- no byte counts more than the first
pub weight_small : (w : ℕ) → w ≤ 2 ^ 24 → weight_after w ≤ 2 ^ 24
unfolding weight_after
weight_small w h = by_cond (λ (n : ℕ). n ≤ 2 ^ 24) (eqb w 1) (2 ^ 24) (w / 256) (lit≤ tt) (omega arith)

-- so a byte adds less than 2^32
pub weight_fits : (w b : ℕ) → w ≤ 2 ^ 24 → b < 256 → w * b < 2 ^ 32
weight_fits w b h k = omega (arith, mul-le-mul_right b h)
