-- W1 as a recording, and the six lines that document 01 gives for it.
use Rattle.std.specs.Prelude.{ℕ, List, [], ◌∷◌, ◌++◌}

-- RXT, version 1; local id 2 of one byte; a store of 16
abbrev entity : List ℕ
entity = 82 ∷ 88 ∷ 84 ∷ 0 ∷ 1 ∷ 1 ∷ 0 ∷ 0 ∷ 0 ∷ 0 ∷ 0 ∷ 0 ∷ 0 ∷ 2 ∷ 0 ∷ 16 ∷ []

-- the handlers by default, no indications; one entry: remote 1, limit 1, no discard
abbrev settings : List ℕ
settings = 1 ∷ 1 ∷ 1 ∷ 1 ∷ 3 ∷ 1 ∷ 1 ∷ 1 ∷ 1 ∷ 3 ∷ 0 ∷ 1 ∷ 0 ∷ 0 ∷ 0 ∷ 0 ∷ 0 ∷ 0 ∷ 0 ∷ 1 ∷ 0 ∷ 0 ∷ 0 ∷ 1 ∷ 0 ∷ []

-- the Metadata, the segment and the EOF, each a record of kind 1 without timer flag
abbrev metadata : List ℕ
metadata = 1 ∷ 0 ∷ 0 ∷ 17 ∷ 36 ∷ 0 ∷ 10 ∷ 0 ∷ 1 ∷ 5 ∷ 2 ∷ 7 ∷ 64 ∷ 0 ∷ 0 ∷ 0 ∷ 5 ∷ 1 ∷ 97 ∷ 1 ∷ 98 ∷ []

abbrev segment : List ℕ
segment = 1 ∷ 0 ∷ 0 ∷ 16 ∷ 52 ∷ 0 ∷ 9 ∷ 0 ∷ 1 ∷ 5 ∷ 2 ∷ 0 ∷ 0 ∷ 0 ∷ 0 ∷ 1 ∷ 2 ∷ 3 ∷ 4 ∷ 5 ∷ []

abbrev eof : List ℕ
eof = 1 ∷ 0 ∷ 0 ∷ 17 ∷ 36 ∷ 0 ∷ 10 ∷ 0 ∷ 1 ∷ 5 ∷ 2 ∷ 4 ∷ 0 ∷ 6 ∷ 2 ∷ 3 ∷ 4 ∷ 0 ∷ 0 ∷ 0 ∷ 5 ∷ []

unfoldable pub w1 : List ℕ
w1 = entity ++ (settings ++ (metadata ++ (segment ++ eof)))

-- 'RXT 1', '1 0 0', '2 0 0', '3 0 1'
abbrev answers : List ℕ
answers = 82 ∷ 88 ∷ 84 ∷ 32 ∷ 49 ∷ 10 ∷ 49 ∷ 32 ∷ 48 ∷ 32 ∷ 48 ∷ 10 ∷ 50 ∷ 32 ∷ 48 ∷ 32 ∷ 48 ∷ 10 ∷ 51 ∷ 32 ∷ 48 ∷ 32 ∷ 49 ∷ 10 ∷ []

-- 'pdu 2c0002000105020502', 'tally 3 0 5'
abbrev sent : List ℕ
sent = 112 ∷ 100 ∷ 117 ∷ 32 ∷ 50 ∷ 99 ∷ 48 ∷ 48 ∷ 48 ∷ 50 ∷ 48 ∷ 48 ∷ 48 ∷ 49 ∷ 48 ∷ 53 ∷ 48 ∷ 50 ∷ 48 ∷ 53 ∷ 48 ∷ 50 ∷ 10 ∷ 116 ∷ 97 ∷ 108 ∷ 108 ∷ 121 ∷ 32 ∷ 51 ∷ 32 ∷ 48 ∷ 32 ∷ 53 ∷ 10 ∷ []

unfoldable pub w1_lines : List ℕ
w1_lines = answers ++ sent
