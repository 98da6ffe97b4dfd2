-- W1 to W10 of document 01: the calls, and what each leaves.
use Rattle.std.specs.Prelude.{ℕ, Bool, true, false, ◌&&◌, List, [], ◌∷◌, eqb, take, replicate}
use Rattle.numbers.specs.declared.Width.{Width}
use Rattle.filestore.specs.File.{file_of}
use Rattle.config.specs.Config.{default_handlers}
use Rattle.config.specs.declared.Config.{Config}
use Rattle.config.specs.declared.RemoteEntityConfig.{RemoteEntityConfig}
use Rattle.state.specs.State.{fresh_of}
use Rattle.state.specs.declared.State.{State}
use Rattle.dest.specs.Call.{Input, Outcome, call_of}

-- a call: its input, and its timer flag
pub record Call : Type 0 where
  pub input : Input
  pub timer : Bool

abbrev pub pdu : List ℕ → Call
pdu bytes = record { input = Input.packet bytes; timer = false }

abbrev pub expiry : Call
expiry = record { input = Input.poll; timer = true }

-- a row: the check limit, the calls, and for each call its answer and the PDU sent; and the file at the end
pub record Row : Type 0 where
  pub limit : ℕ
  pub calls : List Call
  pub answers : List ℕ
  pub sent : List (List ℕ)
  pub file : List ℕ

-- local id 2, remote 1, discard and flags 0, default handlers
abbrev pub remote : ℕ → ℕ → RemoteEntityConfig
remote id limit = record { id = id; limit = limit; discard = false }

unfoldable pub config_of : ℕ → Config
config_of limit =
    record {
      local = record { width = Width.One; value = 2 };
      handlers = default_handlers;
      segmentrecv = false;
      eofrecv = false;
      entries = 1;
      table = remote 1 limit ∷ replicate 7 (remote 0 0);
    }

-- what a run of calls leaves, over one store of 16 bytes: the answers, the PDUs sent, and the file
pub record Ran : Type 0 where
  pub answers : List ℕ
  pub sent : List (List ℕ)
  pub file : List ℕ

abbrev pub after_call : Outcome → Ran → Ran
after_call o rest =
    record { answers = o.called.answer ∷ rest.answers; sent = take o.called.sent o.out ∷ rest.sent; file = rest.file }

unfoldable pub ran_of : State → List ℕ → List Call → Ran
ran_of s store [] = record { answers = []; sent = []; file = file_of store s.transfer.file.length }
ran_of s store (c ∷ rest) =
    let o = call_of s store (replicate 40 0) c.input c.timer in
    after_call o (ran_of o.called.state o.store rest)

-- whether two lists are the same
unfoldable pub same : List ℕ → List ℕ → Bool
same [] [] = true
same [] (y ∷ ys) = false
same (x ∷ xs) [] = false
same (x ∷ xs) (y ∷ ys) = eqb x y && same xs ys

unfoldable pub same_lists : List (List ℕ) → List (List ℕ) → Bool
same_lists [] [] = true
same_lists [] (y ∷ ys) = false
same_lists (x ∷ xs) [] = false
same_lists (x ∷ xs) (y ∷ ys) = same x y && same_lists xs ys

-- whether a row holds
unfoldable pub holds : Row → Bool
holds r =
    let ran = ran_of (fresh_of (config_of r.limit)) (replicate 16 0) r.calls in
    same ran.answers r.answers && (same_lists ran.sent r.sent && same ran.file r.file)

unfoldable pub all_hold : List Row → Bool
all_hold [] = true
all_hold (r ∷ rest) = holds r && all_hold rest

-- W1's Metadata, segment and EOF
abbrev pub metadata : List ℕ
metadata = 0x24 ∷ 0x00 ∷ 0x0a ∷ 0x00 ∷ 0x01 ∷ 0x05 ∷ 0x02 ∷ 0x07 ∷ 0x40 ∷ 0x00 ∷ 0x00 ∷ 0x00 ∷ 0x05 ∷ 0x01 ∷ 0x61 ∷ 0x01 ∷ 0x62 ∷ []

-- its segment
abbrev pub segment : List ℕ
segment = 0x34 ∷ 0x00 ∷ 0x09 ∷ 0x00 ∷ 0x01 ∷ 0x05 ∷ 0x02 ∷ 0x00 ∷ 0x00 ∷ 0x00 ∷ 0x00 ∷ 0x01 ∷ 0x02 ∷ 0x03 ∷ 0x04 ∷ 0x05 ∷ []

-- its EOF, with the sum 06020304
abbrev pub eof_good : List ℕ
eof_good = 0x24 ∷ 0x00 ∷ 0x0a ∷ 0x00 ∷ 0x01 ∷ 0x05 ∷ 0x02 ∷ 0x04 ∷ 0x00 ∷ 0x06 ∷ 0x02 ∷ 0x03 ∷ 0x04 ∷ 0x00 ∷ 0x00 ∷ 0x00 ∷ 0x05 ∷ []

-- the EOF with the sum 0
abbrev pub eof_zero : List ℕ
eof_zero = 0x24 ∷ 0x00 ∷ 0x0a ∷ 0x00 ∷ 0x01 ∷ 0x05 ∷ 0x02 ∷ 0x04 ∷ 0x00 ∷ 0x00 ∷ 0x00 ∷ 0x00 ∷ 0x00 ∷ 0x00 ∷ 0x00 ∷ 0x00 ∷ 0x05 ∷ []

-- the Finished PDU of a complete transfer
abbrev pub finished : List ℕ
finished = 0x2c ∷ 0x00 ∷ 0x02 ∷ 0x00 ∷ 0x01 ∷ 0x05 ∷ 0x02 ∷ 0x05 ∷ 0x02 ∷ []

-- the Finished PDU at the check limit: condition 10, incomplete, with the fault location
abbrev pub limited : List ℕ
limited = 0x2c ∷ 0x00 ∷ 0x05 ∷ 0x00 ∷ 0x01 ∷ 0x05 ∷ 0x02 ∷ 0x05 ∷ 0xa6 ∷ 0x06 ∷ 0x01 ∷ 0x02 ∷ []

-- the table
unfoldable pub table : List Row
table =
    -- W1
    record { limit = 1; calls = pdu metadata ∷ pdu segment ∷ pdu eof_good ∷ []; answers = 0 ∷ 0 ∷ 0 ∷ []; sent = [] ∷ [] ∷ finished ∷ []; file = 0x01 ∷ 0x02 ∷ 0x03 ∷ 0x04 ∷ 0x05 ∷ [] }
    -- W2: the sum fails, limit 1, one expiry
    ∷ record { limit = 1; calls = pdu metadata ∷ pdu segment ∷ pdu eof_zero ∷ expiry ∷ []; answers = 0 ∷ 0 ∷ 0 ∷ 0 ∷ []; sent = [] ∷ [] ∷ [] ∷ limited ∷ []; file = 0x01 ∷ 0x02 ∷ 0x03 ∷ 0x04 ∷ 0x05 ∷ [] }
    -- W3: limit 0 as limit 1
    ∷ record { limit = 0; calls = pdu metadata ∷ pdu segment ∷ pdu eof_zero ∷ expiry ∷ []; answers = 0 ∷ 0 ∷ 0 ∷ 0 ∷ []; sent = [] ∷ [] ∷ [] ∷ limited ∷ []; file = 0x01 ∷ 0x02 ∷ 0x03 ∷ 0x04 ∷ 0x05 ∷ [] }
    -- W4: limit 2, two expiries
    ∷ record { limit = 2; calls = pdu metadata ∷ pdu segment ∷ pdu eof_zero ∷ expiry ∷ expiry ∷ []; answers = 0 ∷ 0 ∷ 0 ∷ 0 ∷ 0 ∷ []; sent = [] ∷ [] ∷ [] ∷ [] ∷ limited ∷ []; file = 0x01 ∷ 0x02 ∷ 0x03 ∷ 0x04 ∷ 0x05 ∷ [] }
    -- W5: an empty file
    ∷ record { limit = 1; calls = pdu (0x24 ∷ 0x00 ∷ 0x0a ∷ 0x00 ∷ 0x01 ∷ 0x05 ∷ 0x02 ∷ 0x07 ∷ 0x40 ∷ 0x00 ∷ 0x00 ∷ 0x00 ∷ 0x00 ∷ 0x01 ∷ 0x61 ∷ 0x01 ∷ 0x62 ∷ []) ∷ pdu (0x24 ∷ 0x00 ∷ 0x0a ∷ 0x00 ∷ 0x01 ∷ 0x05 ∷ 0x02 ∷ 0x04 ∷ 0x00 ∷ 0x00 ∷ 0x00 ∷ 0x00 ∷ 0x00 ∷ 0x00 ∷ 0x00 ∷ 0x00 ∷ 0x00 ∷ []) ∷ []; answers = 0 ∷ 0 ∷ []; sent = [] ∷ finished ∷ []; file = [] }
    -- W6: the words in one order
    ∷ record { limit = 1; calls = pdu (0x24 ∷ 0x00 ∷ 0x0a ∷ 0x00 ∷ 0x01 ∷ 0x05 ∷ 0x02 ∷ 0x07 ∷ 0x40 ∷ 0x00 ∷ 0x00 ∷ 0x00 ∷ 0x08 ∷ 0x01 ∷ 0x61 ∷ 0x01 ∷ 0x62 ∷ []) ∷ pdu (0x34 ∷ 0x00 ∷ 0x0c ∷ 0x00 ∷ 0x01 ∷ 0x05 ∷ 0x02 ∷ 0x00 ∷ 0x00 ∷ 0x00 ∷ 0x00 ∷ 0x01 ∷ 0x02 ∷ 0x03 ∷ 0x04 ∷ 0x05 ∷ 0x06 ∷ 0x07 ∷ 0x08 ∷ []) ∷ pdu (0x24 ∷ 0x00 ∷ 0x0a ∷ 0x00 ∷ 0x01 ∷ 0x05 ∷ 0x02 ∷ 0x04 ∷ 0x00 ∷ 0x06 ∷ 0x08 ∷ 0x0a ∷ 0x0c ∷ 0x00 ∷ 0x00 ∷ 0x00 ∷ 0x08 ∷ []) ∷ []; answers = 0 ∷ 0 ∷ 0 ∷ []; sent = [] ∷ [] ∷ finished ∷ []; file = 0x01 ∷ 0x02 ∷ 0x03 ∷ 0x04 ∷ 0x05 ∷ 0x06 ∷ 0x07 ∷ 0x08 ∷ [] }
    -- W6: the words in the other order
    ∷ record { limit = 1; calls = pdu (0x24 ∷ 0x00 ∷ 0x0a ∷ 0x00 ∷ 0x01 ∷ 0x05 ∷ 0x02 ∷ 0x07 ∷ 0x40 ∷ 0x00 ∷ 0x00 ∷ 0x00 ∷ 0x08 ∷ 0x01 ∷ 0x61 ∷ 0x01 ∷ 0x62 ∷ []) ∷ pdu (0x34 ∷ 0x00 ∷ 0x0c ∷ 0x00 ∷ 0x01 ∷ 0x05 ∷ 0x02 ∷ 0x00 ∷ 0x00 ∷ 0x00 ∷ 0x00 ∷ 0x05 ∷ 0x06 ∷ 0x07 ∷ 0x08 ∷ 0x01 ∷ 0x02 ∷ 0x03 ∷ 0x04 ∷ []) ∷ pdu (0x24 ∷ 0x00 ∷ 0x0a ∷ 0x00 ∷ 0x01 ∷ 0x05 ∷ 0x02 ∷ 0x04 ∷ 0x00 ∷ 0x06 ∷ 0x08 ∷ 0x0a ∷ 0x0c ∷ 0x00 ∷ 0x00 ∷ 0x00 ∷ 0x08 ∷ []) ∷ []; answers = 0 ∷ 0 ∷ 0 ∷ []; sent = [] ∷ [] ∷ finished ∷ []; file = 0x05 ∷ 0x06 ∷ 0x07 ∷ 0x08 ∷ 0x01 ∷ 0x02 ∷ 0x03 ∷ 0x04 ∷ [] }
    -- W7: a sum that wraps to 0
    ∷ record { limit = 1; calls = pdu (0x24 ∷ 0x00 ∷ 0x0a ∷ 0x00 ∷ 0x01 ∷ 0x05 ∷ 0x02 ∷ 0x07 ∷ 0x40 ∷ 0x00 ∷ 0x00 ∷ 0x00 ∷ 0x08 ∷ 0x01 ∷ 0x61 ∷ 0x01 ∷ 0x62 ∷ []) ∷ pdu (0x34 ∷ 0x00 ∷ 0x0c ∷ 0x00 ∷ 0x01 ∷ 0x05 ∷ 0x02 ∷ 0x00 ∷ 0x00 ∷ 0x00 ∷ 0x00 ∷ 0xff ∷ 0xff ∷ 0xff ∷ 0xff ∷ 0x00 ∷ 0x00 ∷ 0x00 ∷ 0x01 ∷ []) ∷ pdu (0x24 ∷ 0x00 ∷ 0x0a ∷ 0x00 ∷ 0x01 ∷ 0x05 ∷ 0x02 ∷ 0x04 ∷ 0x00 ∷ 0x00 ∷ 0x00 ∷ 0x00 ∷ 0x00 ∷ 0x00 ∷ 0x00 ∷ 0x00 ∷ 0x08 ∷ []) ∷ []; answers = 0 ∷ 0 ∷ 0 ∷ []; sent = [] ∷ [] ∷ finished ∷ []; file = 0xff ∷ 0xff ∷ 0xff ∷ 0xff ∷ 0x00 ∷ 0x00 ∷ 0x00 ∷ 0x01 ∷ [] }
    -- W8: 5 bytes at 11 fit a store of 16
    ∷ record { limit = 1; calls = pdu metadata ∷ pdu (0x34 ∷ 0x00 ∷ 0x09 ∷ 0x00 ∷ 0x01 ∷ 0x05 ∷ 0x02 ∷ 0x00 ∷ 0x00 ∷ 0x00 ∷ 0x0b ∷ 0x01 ∷ 0x02 ∷ 0x03 ∷ 0x04 ∷ 0x05 ∷ []) ∷ []; answers = 0 ∷ 0 ∷ []; sent = [] ∷ [] ∷ []; file = 0x00 ∷ 0x00 ∷ 0x00 ∷ 0x00 ∷ 0x00 ∷ 0x00 ∷ 0x00 ∷ 0x00 ∷ 0x00 ∷ 0x00 ∷ 0x00 ∷ 0x01 ∷ 0x02 ∷ 0x03 ∷ 0x04 ∷ 0x05 ∷ [] }
    -- W8: at 12 they do not
    ∷ record { limit = 1; calls = pdu metadata ∷ pdu (0x34 ∷ 0x00 ∷ 0x09 ∷ 0x00 ∷ 0x01 ∷ 0x05 ∷ 0x02 ∷ 0x00 ∷ 0x00 ∷ 0x00 ∷ 0x0c ∷ 0x01 ∷ 0x02 ∷ 0x03 ∷ 0x04 ∷ 0x05 ∷ []) ∷ []; answers = 0 ∷ 19 ∷ []; sent = [] ∷ [] ∷ []; file = [] }
    -- W9: one byte at 3 of an empty file
    ∷ record { limit = 1; calls = pdu metadata ∷ pdu (0x34 ∷ 0x00 ∷ 0x05 ∷ 0x00 ∷ 0x01 ∷ 0x05 ∷ 0x02 ∷ 0x00 ∷ 0x00 ∷ 0x00 ∷ 0x03 ∷ 0x2a ∷ []) ∷ []; answers = 0 ∷ 0 ∷ []; sent = [] ∷ [] ∷ []; file = 0x00 ∷ 0x00 ∷ 0x00 ∷ 0x2a ∷ [] }
    -- W10: a segment of sequence 6
    ∷ record { limit = 1; calls = pdu metadata ∷ pdu (0x34 ∷ 0x00 ∷ 0x09 ∷ 0x00 ∷ 0x01 ∷ 0x06 ∷ 0x02 ∷ 0x00 ∷ 0x00 ∷ 0x00 ∷ 0x00 ∷ 0x01 ∷ 0x02 ∷ 0x03 ∷ 0x04 ∷ 0x05 ∷ []) ∷ []; answers = 0 ∷ 13 ∷ []; sent = [] ∷ [] ∷ []; file = [] }
    ∷ []
