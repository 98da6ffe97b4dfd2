-- The Metadata body (CCSDS 727.0-B-5, 5.2.5): 7; a byte with closure in bit 6 and the checksum type in bits 3-0; size; source name and
-- destination name, each a length byte and its bytes; options to the end.
use Rattle.std.specs.Prelude.{ℕ, ◌+◌, ◌%◌, Bool, cond, not, ◌&&◌, List, length, get_or, take, drop, leb, ltb, eqb}
use Rattle.laws.specs.Bits.{flag}
use Rattle.codes.specs.Refusals.{Answer, Good, Refused}
use Rattle.numbers.specs.Numbers.{number_at}
use Rattle.bodies.specs.Size.{size_bytes}
use Rattle.options.specs.Options.{options_of, refusal_of, has_message}
use Rattle.bodies.specs.declared.metadata.MetadataPdu.{MetadataPdu}

-- a name at a place: a length byte and as many bytes (fewer where the body ends before)
unfoldable pub name_at : List ℕ → ℕ → List ℕ
name_at s at = take (get_or s at 0) (drop (at + 1) s)

abbrev pub name_end : List ℕ → ℕ → ℕ
name_end s at = at + 1 + get_or s at 0

-- whether a name is whole: its length byte is there, and its bytes
unfoldable pub name_whole : List ℕ → ℕ → Bool
name_whole s at = ltb at (length s) && leb (name_end s at) (length s)

-- where the names and the options stand
abbrev pub source_at : Bool → ℕ
source_at large = 2 + size_bytes large

abbrev pub dest_at : List ℕ → Bool → ℕ
dest_at s large = name_end s (source_at large)

abbrev pub options_at : List ℕ → Bool → ℕ
options_at s large = name_end s (dest_at s large)

-- 14: a name is not whole, or an option
unfoldable pub malformed : List ℕ → Bool → Bool
malformed s large =
    not (name_whole s (source_at large) && (name_whole s (dest_at s large) && eqb (refusal_of (options_of s (options_at s large))) 0))

-- the body's fields; a name is given by its place
unfoldable pub fields_of : List ℕ → Bool → MetadataPdu
fields_of s large =
    record {
      closure = flag 6 (get_or s 1 0);
      checksumtype = get_or s 1 0 % 16;
      size = number_at s 2 (size_bytes large);
      sourceat = source_at large;
      destat = dest_at s large;
      optionsat = options_at s large;
      message = has_message (options_of s (options_at s large));
    }

-- what reading a Metadata body answers
unfoldable pub metadata_of : List ℕ → Bool → Answer MetadataPdu
metadata_of s large = cond (malformed s large) (Refused 14) (Good (fields_of s large))
