-- Document 01's sums, and where its segments go, computed from the definitions.
use Rattle.std.proofs.Common.{◌≡◌, ℕ, true, false, [], ◌∷◌, refl}
use Rattle.laws.specs.Parts.{pasted}
use Rattle.filestore.specs.File.{segment_fits, segment_into, length_after, stored, with_segment, stored_of}
use Rattle.filestore.specs.Checksum.{total, checksum_of}

-- W1: the last word is padded at its end
pub w1-sum : checksum_of (0x01 ∷ 0x02 ∷ 0x03 ∷ 0x04 ∷ 0x05 ∷ []) ≡ 0x06020304
unfolding checksum_of total
w1-sum = refl

-- W6: two words in either order
pub w6_sum : checksum_of (0x01 ∷ 0x02 ∷ 0x03 ∷ 0x04 ∷ 0x05 ∷ 0x06 ∷ 0x07 ∷ 0x08 ∷ []) ≡ 0x06080A0C
unfolding checksum_of total
w6_sum = refl

pub w6_other : checksum_of (0x05 ∷ 0x06 ∷ 0x07 ∷ 0x08 ∷ 0x01 ∷ 0x02 ∷ 0x03 ∷ 0x04 ∷ []) ≡ 0x06080A0C
unfolding checksum_of total
w6_other = refl

-- W7: the sum goes round at 2^32
pub w7_sum : checksum_of (0xFF ∷ 0xFF ∷ 0xFF ∷ 0xFF ∷ 0x00 ∷ 0x00 ∷ 0x00 ∷ 0x01 ∷ []) ≡ 0
unfolding checksum_of total
w7_sum = refl

-- W8: 5 bytes at 11 fit a store of 16, and at 12 they do not
pub w8_fits : segment_fits 16 11 5 ≡ true
unfolding segment_fits
w8_fits = refl

pub w8_unfit : segment_fits 16 12 5 ≡ false
unfolding segment_fits
w8_unfit = refl

-- W9: one byte at 3 of an empty file, whatever the store held
pub w9 : (x a b c d e : ℕ) → stored_of (a ∷ b ∷ c ∷ d ∷ e ∷ []) 0 3 (x ∷ []) ≡ stored 4 (0 ∷ 0 ∷ 0 ∷ x ∷ e ∷ [])
unfolding stored_of with_segment segment_fits segment_into length_after pasted
w9 x a b c d e = refl
