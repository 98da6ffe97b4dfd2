-- The EOF body (CCSDS 727.0-B-5, 5.2.2): 4; condition in the high half of the next byte; checksum, 4 bytes; size; nothing more.
use Rattle.std.specs.Prelude.{ℕ, ◌+◌, ◌/◌, Bool, not, List, [], ◌∷◌, length, get_or, ltb, eqb}
use Rattle.codes.specs.Codes.{no_error}
use Rattle.codes.specs.Refusals.{Answer, unless}
use Rattle.laws.specs.First.{first_of}
use Rattle.numbers.specs.Numbers.{number_at}
use Rattle.bodies.specs.Size.{size_bytes}
use Rattle.bodies.specs.declared.eof.EofPdu.{EofPdu}

-- the condition code
abbrev pub condition : List ℕ → ℕ
condition s = get_or s 1 0 / 16

-- how long the body is
abbrev pub eof_length : Bool → ℕ
eof_length large = 6 + size_bytes large

-- the body's refusals in 01's order: 14 (under 2 bytes), 10 (a condition other than 0), 14 (length)
unfoldable pub eof_order : List ℕ → Bool → List (ℕ × Bool)
eof_order s large =
    (14, ltb (length s) 2) ∷ (10, not (eqb (condition s) no_error)) ∷ (14, not (eqb (length s) (eof_length large))) ∷ []

unfoldable pub eof_refusal : List ℕ → Bool → ℕ
eof_refusal s large = first_of (eof_order s large)

-- the body's fields
unfoldable pub fields_of : List ℕ → Bool → EofPdu
fields_of s large = record { checksum = number_at s 2 4; size = number_at s 6 (size_bytes large) }

-- what reading an EOF body answers
unfoldable pub eof_of : List ℕ → Bool → Answer EofPdu
eof_of s large = unless (eof_refusal s large) (fields_of s large)
