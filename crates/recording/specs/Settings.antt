-- A recording's header, big-endian, a byte where no size stands: RXT, version 1 (2), local width, local id (8), store length (2), ten
-- handlers in order of condition, flags (bit 0 segment, bit 1 EOF indication), entry count; then entries of id (8), limit (4), discard.
use Rattle.std.specs.Prelude.{ℕ, ◌+◌, ◌*◌, Bool, false, cond, not, ◌&&◌, ◌||◌, List, length, get_or, map, leb, ltb, eqb, Option, Some, None}
use Rattle.std.specs.List.{list_all, range_with_len}
use Rattle.laws.specs.Bits.{flag}
use Rattle.numbers.specs.Numbers.{ok_width, width_of, number_at}
use Rattle.config.specs.Config.{config_broken}
use Rattle.config.specs.declared.Config.{Config}
use Rattle.config.specs.declared.RemoteEntityConfig.{RemoteEntityConfig}
use Rattle.recording.specs.declared.settings.Settings.{Settings}

-- the byte at an index (0 past the end)
abbrev pub byte_at : List ℕ → ℕ → ℕ
byte_at s at = get_or s at 0

-- the mark RXT and version 1
abbrev pub marked : List ℕ → Bool
marked s = eqb (byte_at s 0) 82 && (eqb (byte_at s 1) 88 && (eqb (byte_at s 2) 84 && eqb (number_at s 3 2) 1))

abbrev pub store_length : List ℕ → ℕ
store_length s = number_at s 14 2

abbrev pub flags_byte : List ℕ → ℕ
flags_byte s = byte_at s 26

abbrev pub entry_count : List ℕ → ℕ
entry_count s = byte_at s 27

-- where an entry starts: behind the 28 bytes before the entries, 13 bytes for each
abbrev pub entry_start : ℕ → ℕ
entry_start i = 28 + 13 * i

-- the whole header
abbrev pub whole_size : List ℕ → ℕ
whole_size s = entry_start (entry_count s)

-- as many bytes are there
unfoldable pub header_whole : List ℕ → Bool
header_whole s = leb 28 (length s) && leb (whole_size s) (length s)

abbrev pub entry_at : List ℕ → ℕ → RemoteEntityConfig
entry_at s i =
    record { id = number_at s (entry_start i) 8; limit = number_at s (entry_start i + 8) 4; discard = eqb (byte_at s (entry_start i + 12)) 1 }

-- the table has eight slots; those behind the entries are not in use
abbrev pub slot_at : List ℕ → ℕ → RemoteEntityConfig
slot_at s i = cond (ltb i (entry_count s)) (entry_at s i) (record { id = 0; limit = 0; discard = false })

abbrev pub table_of : List ℕ → List RemoteEntityConfig
table_of s = map (slot_at s) (range_with_len 0 8)

abbrev pub handlers_of : List ℕ → List ℕ
handlers_of s = map (λ i. byte_at s (16 + i)) (range_with_len 0 10)

unfoldable pub config_of : List ℕ → Config
config_of s =
    record {
      local = record { width = width_of (byte_at s 5); value = number_at s 6 8 };
      handlers = handlers_of s;
      segmentrecv = flag 0 (flags_byte s);
      eofrecv = flag 1 (flags_byte s);
      entries = entry_count s;
      table = table_of s;
    }

-- the discard of each of the first n entries is 0 or 1
abbrev pub discards_ok : List ℕ → ℕ → Bool
discards_ok s n = list_all (λ i. leb (byte_at s (entry_start i + 12)) 1) (range_with_len 0 n)

-- a header cut off, with another mark or version, a flags byte above 3, a local width other than 1, 2, 4, 8 or a discard above 1 is bad
unfoldable pub framed : List ℕ → Bool
framed s =
    leb 28 (length s)
    && (marked s
    && (leb (flags_byte s) 3 && (ok_width (byte_at s 5) && (leb (whole_size s) (length s) && discards_ok s (entry_count s)))))

-- and so is one with a value that 21 refuses
unfoldable pub settings_bad : List ℕ → Bool
settings_bad s = not (framed s) || config_broken (config_of s)

-- what a header says that is not bad
abbrev pub said_of : List ℕ → Settings
said_of s = record { config = config_of s; store = store_length s; size = whole_size s }

unfoldable pub settings_of : List ℕ → Option Settings
settings_of s = cond (settings_bad s) None (Some (said_of s))
