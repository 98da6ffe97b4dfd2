-- What the code carries from byte to byte, and what it makes of each byte. Nobody has to believe these definitions: they name the
-- contracts of the functions below `check`, whose own contract is `checked_of`, and proofs/Grammar.antt shows that they follow the grammar.
use Rattle.std.specs.Prelude.{ℕ, zero, suc, ◌-◌, cond, List, [], ◌∷◌, eqb, ltb, replicate, Option, None, Some}
use Rattle.laws.specs.Parts.{within}
use Rattle.utf8.specs.Utf8.{Range, tail}
use Rattle.utf8.specs.declared.Owed.{Owed}

-- the ranges of so many bytes, where the next one's is given
unfoldable pub ranges_of : ℕ → Range → List Range
ranges_of zero r = []
ranges_of (suc n) r = r ∷ replicate n tail

-- the ranges that are owed
abbrev pub owed_of : Owed → List Range
owed_of o = ranges_of o.count (o.low, o.high)

-- a byte that belongs there, and what is owed after it
abbrev pub owing : ℕ → Range → Option Owed
owing n r = Some (record { count = n; low = r.0; high = r.1 })

-- what a byte from 0xE0 to 0xEF leads to, where it begins a character
unfoldable pub three_of : ℕ → Option Owed
three_of b = cond (eqb b 0xE0) (owing 2 (0xA0, 0xBF)) (cond (eqb b 0xED) (owing 2 (0x80, 0x9F)) (owing 2 tail))

-- what a byte from 0xF0 on leads to, where it begins a character
unfoldable pub four_of : ℕ → Option Owed
four_of b =
    cond (eqb b 0xF0) (owing 3 (0x90, 0xBF))
    (cond (ltb b 0xF4) (owing 3 tail) (cond (eqb b 0xF4) (owing 3 (0x80, 0x8F)) None))

-- what any byte leads to, where it begins a character
unfoldable pub lead_of : ℕ → Option Owed
lead_of b =
    cond (ltb b 0x80) (owing 0 tail)
    (cond (ltb b 0xC2) None (cond (ltb b 0xE0) (owing 1 tail) (cond (ltb b 0xF0) (three_of b) (four_of b))))

-- what the next byte leads to, where that much is owed
unfoldable pub after_of : Owed → ℕ → Option Owed
after_of o b =
    cond (eqb o.count 0) (lead_of b) (cond (within o.low o.high b) (owing (o.count - 1) tail) None)
