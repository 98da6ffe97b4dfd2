-- UTF-8 as RFC 3629, section 4, has it: its grammar as data, and what a walk by that grammar finds.
use Rattle.std.specs.Prelude.{ℕ, ◌+◌, Bool, true, false, cond, List, [], ◌∷◌, ⊤, Result, Ok, Err}
use Rattle.laws.specs.Parts.{within}
use Rattle.utf8.specs.declared.NotUtf8.{NotUtf8}

-- what the check answers: that all is well, or the index of the first byte that does not belong there
abbrev pub Checked : Type 0
Checked = Result ⊤ NotUtf8

abbrev pub valid : Checked
valid = Ok tt

abbrev pub bad : ℕ → Checked
bad i = Err (record { at = i })

-- the bytes from the first to the second number, as the RFC's %x80-BF
abbrev pub Range : Type 0
Range = ℕ × ℕ

-- UTF8-tail = %x80-BF
abbrev pub tail : Range
tail = (0x80, 0xBF)

-- UTF8-char: the RFC's alternatives, each a range for each of its bytes, in the RFC's order
unfoldable pub chars : List (List Range)
chars =
    ((0x00, 0x7F) ∷ [])
    ∷ ((0xC2, 0xDF) ∷ tail ∷ [])
    ∷ ((0xE0, 0xE0) ∷ (0xA0, 0xBF) ∷ tail ∷ [])
    ∷ ((0xE1, 0xEC) ∷ tail ∷ tail ∷ [])
    ∷ ((0xED, 0xED) ∷ (0x80, 0x9F) ∷ tail ∷ [])
    ∷ ((0xEE, 0xEF) ∷ tail ∷ tail ∷ [])
    ∷ ((0xF0, 0xF0) ∷ (0x90, 0xBF) ∷ tail ∷ tail ∷ [])
    ∷ ((0xF1, 0xF3) ∷ tail ∷ tail ∷ tail ∷ [])
    ∷ ((0xF4, 0xF4) ∷ (0x80, 0x8F) ∷ tail ∷ tail ∷ [])
    ∷ []

-- whether a byte may be the first of an alternative
abbrev pub heads : List Range → ℕ → Bool
heads [] b = false
heads (r ∷ rest) b = within r.0 r.1 b

-- what an alternative asks of the bytes after its first
abbrev pub tails : List Range → List Range
tails [] = []
tails (r ∷ rest) = rest

-- whether a character can begin with the byte
unfoldable pub begins_in : List (List Range) → ℕ → Bool
begins_in [] b = false
begins_in (a ∷ rest) b = cond (heads a b) true (begins_in rest b)

-- what the first alternative that begins with the byte asks of the bytes after it
unfoldable pub owed_in : List (List Range) → ℕ → List Range
owed_in [] b = []
owed_in (a ∷ rest) b = cond (heads a b) (tails a) (owed_in rest b)

-- at the end: all is well where no byte of a character is still owed; else the text is cut off there
abbrev pub at_end : List Range → ℕ → Checked
at_end [] i = valid
at_end (r ∷ rest) i = bad i

-- UTF8-octets = *( UTF8-char ), walked from index i on, where the present character still owes bytes in the given ranges:
-- valid, or bad with the index of the first byte that the grammar does not allow (the length, where a character is cut off)
unfoldable pub checked_from : List Range → ℕ → List ℕ → Checked
checked_from owed i [] = at_end owed i
checked_from [] i (b ∷ s) = cond (begins_in chars b) (checked_from (owed_in chars b) (i + 1) s) (bad i)
checked_from (r ∷ owed) i (b ∷ s) = cond (within r.0 r.1 b) (checked_from owed (i + 1) s) (bad i)

-- what the walk over a whole text finds
unfoldable pub checked_of : List ℕ → Checked
checked_of s = checked_from [] 0 s

-- document 01's number for each answer
abbrev pub refusal_of : Checked → ℕ
refusal_of (Ok u) = 0
refusal_of (Err e) = 18
