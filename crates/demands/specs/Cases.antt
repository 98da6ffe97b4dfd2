-- Inputs on which each refusal is given, and for neighbours in 01's order inputs on which both conditions hold and the earlier one is told.
--
-- Some neighbours have no row, since both can't hold, or an earlier one is told: 7 and 8, 8 and 10 (a directive is unknown, for the sender or not
-- supported); 16 and 17 (where both names are empty, 10 is told); 14 and 20 (a segment that is not there has no bytes, and progress is below 2^64); and
-- of an EOF 14 and 10 (a condition that is not there is none). Each of these is a theorem of proofs/Apart.antt.
use Rattle.std.specs.Prelude.{ℕ, suc, ◌+◌, ◌-◌, ◌^◌, Bool, true, false, cond, ◌&&◌, not, List, [], ◌∷◌, eqb, get_or, replicate}
use Rattle.transfer.specs.Transfer.{with_file, with_finish, started_of}
use Rattle.transfer.specs.declared.TransferState.{TransferState}
use Rattle.state.specs.State.{fresh_of, no_name}
use Rattle.state.specs.declared.State.{State}
use Rattle.dest.specs.Call.{Input, poll, packet, call_of}
use Rattle.promises.specs.Vectors.{config_of, metadata, segment}
use Rattle.demands.specs.Order.{call_order}

-- a call on a state, with a store and an out buffer of those sizes: the place in its order of the first condition that holds, the
-- number that it tells, and whether the next condition holds as well
pub record Case : Type 0 where
  pub state : State
  pub size : ℕ
  pub out : ℕ
  pub input : Input
  pub place : ℕ
  pub number : ℕ
  pub next : Bool

-- the place of the first condition that holds
unfoldable pub first_place : List (ℕ × Bool) → ℕ
first_place [] = 0
first_place (c ∷ rest) = cond c.1 0 (suc (first_place rest))

abbrev pub condition_at : List (ℕ × Bool) → ℕ → Bool
condition_at l k = (get_or l k (0, false)).1

abbrev pub same_flag : Bool → Bool → Bool
same_flag a b = cond a b (not b)

unfoldable pub holds : Case → Bool
holds c =
    let order = call_order c.state c.size c.out c.input in
    eqb (call_of c.state (replicate c.size 0) (replicate c.out 0) c.input false).called.answer c.number
    && (eqb (first_place order) c.place && same_flag (condition_at order (c.place + 1)) c.next)

unfoldable pub all_hold : List Case → Bool
all_hold [] = true
all_hold (c ∷ rest) = holds c && all_hold rest

-- a fresh receiver, one that receives, and one that holds a file of five bytes
abbrev fresh : State
fresh = fresh_of (config_of 1)

abbrev receiving : State
receiving = (call_of fresh (replicate 16 0) (replicate 40 0) (packet metadata) false).called.state

abbrev holding : State
holding = (call_of receiving (replicate 16 0) (replicate 40 0) (packet segment) false).called.state

-- a state with another transfer
abbrev holds_transfer : State → TransferState → State
holds_transfer s t = record { config = s.config; transfer = t; last = s.last; source = s.source; dest = s.dest }

-- without its names, and with progress at its end
abbrev nameless : State
nameless =
    record { config = holding.config; transfer = holding.transfer; last = holding.last; source = no_name; dest = holding.dest }

abbrev full : State
full = holds_transfer receiving (with_file receiving.transfer (record { length = 0; progress = 2 ^ 64 - 1 }))

-- with a condition, and with a checksum type
abbrev conditioned : State → ℕ → State
conditioned s c =
    holds_transfer s (with_finish s.transfer (record { condition = c; complete = false; retained = true; cancelled = false }))

abbrev typed : State → ℕ → State
typed s c = holds_transfer s (started_of s.transfer.conf s.transfer.closure c)

abbrev given : State → ℕ → ℕ → Input → ℕ → ℕ → Bool → Case
given s size out input place number next =
    record { state = s; size = size; out = out; input = input; place = place; number = number; next = next }

-- the table
unfoldable pub cases : List Case
cases =
    -- 21 and 1: a busy state without names, and a store shorter than its file
    given nameless 0 40 poll 0 21 true
    -- 21 of a condition or a checksum type above four bits, in a busy and in an idle state; what fits them passes
    ∷ given (conditioned receiving 16) 16 40 poll 0 21 false
    ∷ given (conditioned fresh 200) 16 40 poll 0 21 false
    ∷ given (typed receiving 16) 16 40 poll 0 21 false
    ∷ given (conditioned (typed receiving 15) 15) 16 40 poll 3 0 false
    -- 1 and 2
    ∷ given holding 0 0 poll 1 1 true
    -- 2 and 3: no out buffer, no bytes
    ∷ given fresh 16 0 (packet []) 2 2 true
    -- 3 and 4: three bytes of version 0
    ∷ given fresh 16 40 (packet (0x00 ∷ 0x00 ∷ 0x00 ∷ [])) 3 3 true
    -- 4 and 5: version 0, width 3
    ∷ given fresh 16 40 (packet (0x00 ∷ 0x00 ∷ 0x00 ∷ 0x20 ∷ [])) 4 4 true
    -- 5 and 6: width 3, CRC flag
    ∷ given fresh 16 40 (packet (0x22 ∷ 0x00 ∷ 0x00 ∷ 0x20 ∷ [])) 5 5 true
    -- 6 and 3: CRC flag, header cut off
    ∷ given fresh 16 40 (packet (0x22 ∷ 0x00 ∷ 0x00 ∷ 0x00 ∷ [])) 6 6 true
    -- 3 and 7: a directive PDU cut off behind four bytes
    ∷ given fresh 16 40 (packet (0x24 ∷ 0x00 ∷ 0x01 ∷ 0x00 ∷ [])) 7 3 true
    -- 3 and 9: file data cut off behind four bytes
    ∷ given fresh 16 40 (packet (0x34 ∷ 0x00 ∷ 0x00 ∷ 0x00 ∷ [])) 7 3 true
    -- 7: an unknown directive
    ∷ given fresh 16 40 (packet (0x24 ∷ 0x00 ∷ 0x01 ∷ 0x00 ∷ 0x01 ∷ 0x05 ∷ 0x02 ∷ 0x01 ∷ [])) 8 7 false
    -- 8: a NAK
    ∷ given fresh 16 40 (packet (0x24 ∷ 0x00 ∷ 0x01 ∷ 0x00 ∷ 0x01 ∷ 0x05 ∷ 0x02 ∷ 0x08 ∷ [])) 9 8 false
    -- 10 and 9: a Prompt for another entity
    ∷ given fresh 16 40 (packet (0x24 ∷ 0x00 ∷ 0x01 ∷ 0x00 ∷ 0x01 ∷ 0x05 ∷ 0x03 ∷ 0x09 ∷ [])) 10 10 true
    -- 9 and 11: a Metadata for another entity while busy
    ∷ given receiving 16 40 (packet (0x24 ∷ 0x00 ∷ 0x0a ∷ 0x00 ∷ 0x01 ∷ 0x05 ∷ 0x03 ∷ 0x07 ∷ 0x40 ∷ 0x00 ∷ 0x00 ∷ 0x00 ∷ 0x05 ∷ 0x01 ∷ 0x61 ∷ 0x01 ∷ 0x62 ∷ [])) 11 9 true
    -- 9 and 12: file data for another entity while idle
    ∷ given fresh 16 40 (packet (0x34 ∷ 0x00 ∷ 0x05 ∷ 0x00 ∷ 0x01 ∷ 0x05 ∷ 0x03 ∷ 0x00 ∷ 0x00 ∷ 0x00 ∷ 0x00 ∷ 0x01 ∷ [])) 8 9 true
    -- 9 and 12: an EOF for another entity while idle
    ∷ given fresh 16 40 (packet (0x24 ∷ 0x00 ∷ 0x0a ∷ 0x00 ∷ 0x01 ∷ 0x05 ∷ 0x03 ∷ 0x04 ∷ 0x00 ∷ 0x00 ∷ 0x00 ∷ 0x00 ∷ 0x00 ∷ 0x00 ∷ 0x00 ∷ 0x00 ∷ 0x05 ∷ [])) 11 9 true
    -- 11 and 10: an acknowledged Metadata while busy
    ∷ given receiving 16 40 (packet (0x20 ∷ 0x00 ∷ 0x0a ∷ 0x00 ∷ 0x01 ∷ 0x05 ∷ 0x02 ∷ 0x07 ∷ 0x40 ∷ 0x00 ∷ 0x00 ∷ 0x00 ∷ 0x05 ∷ 0x01 ∷ 0x61 ∷ 0x01 ∷ 0x62 ∷ [])) 12 11 true
    -- 10 and 14: an acknowledged Metadata without a body
    ∷ given fresh 16 40 (packet (0x20 ∷ 0x00 ∷ 0x01 ∷ 0x00 ∷ 0x01 ∷ 0x05 ∷ 0x02 ∷ 0x07 ∷ [])) 13 10 true
    -- 14 and 15: a Metadata without a body from an unknown source
    ∷ given fresh 16 40 (packet (0x24 ∷ 0x00 ∷ 0x01 ∷ 0x00 ∷ 0x09 ∷ 0x05 ∷ 0x02 ∷ 0x07 ∷ [])) 14 14 true
    -- 15 and 10: both names empty, from an unknown source
    ∷ given fresh 16 40 (packet (0x24 ∷ 0x00 ∷ 0x08 ∷ 0x00 ∷ 0x09 ∷ 0x05 ∷ 0x02 ∷ 0x07 ∷ 0x40 ∷ 0x00 ∷ 0x00 ∷ 0x00 ∷ 0x05 ∷ 0x00 ∷ 0x00 ∷ [])) 15 15 true
    -- 10 and 16: both names empty
    ∷ given fresh 16 40 (packet (0x24 ∷ 0x00 ∷ 0x08 ∷ 0x00 ∷ 0x01 ∷ 0x05 ∷ 0x02 ∷ 0x07 ∷ 0x40 ∷ 0x00 ∷ 0x00 ∷ 0x00 ∷ 0x05 ∷ 0x00 ∷ 0x00 ∷ [])) 16 10 true
    -- 16: the source name empty
    ∷ given fresh 16 40 (packet (0x24 ∷ 0x00 ∷ 0x09 ∷ 0x00 ∷ 0x01 ∷ 0x05 ∷ 0x02 ∷ 0x07 ∷ 0x40 ∷ 0x00 ∷ 0x00 ∷ 0x00 ∷ 0x05 ∷ 0x00 ∷ 0x01 ∷ 0x62 ∷ [])) 17 16 false
    -- 17 and 18: the destination name empty, the source name not UTF-8
    ∷ given fresh 16 40 (packet (0x24 ∷ 0x00 ∷ 0x09 ∷ 0x00 ∷ 0x01 ∷ 0x05 ∷ 0x02 ∷ 0x07 ∷ 0x40 ∷ 0x00 ∷ 0x00 ∷ 0x00 ∷ 0x05 ∷ 0x01 ∷ 0xff ∷ 0x00 ∷ [])) 18 17 true
    -- 18 and 10: a name that is not UTF-8, and a Message to User
    ∷ given fresh 16 40 (packet (0x24 ∷ 0x00 ∷ 0x0c ∷ 0x00 ∷ 0x01 ∷ 0x05 ∷ 0x02 ∷ 0x07 ∷ 0x40 ∷ 0x00 ∷ 0x00 ∷ 0x00 ∷ 0x05 ∷ 0x01 ∷ 0x61 ∷ 0x01 ∷ 0xff ∷ 0x02 ∷ 0x00 ∷ [])) 19 18 true
    -- 10: a Message to User
    ∷ given fresh 16 40 (packet (0x24 ∷ 0x00 ∷ 0x0c ∷ 0x00 ∷ 0x01 ∷ 0x05 ∷ 0x02 ∷ 0x07 ∷ 0x40 ∷ 0x00 ∷ 0x00 ∷ 0x00 ∷ 0x05 ∷ 0x01 ∷ 0x61 ∷ 0x01 ∷ 0x62 ∷ 0x02 ∷ 0x00 ∷ [])) 20 10 false
    -- 12 and 13: file data while idle
    ∷ given fresh 16 40 (packet (0x34 ∷ 0x00 ∷ 0x05 ∷ 0x00 ∷ 0x01 ∷ 0x05 ∷ 0x02 ∷ 0x00 ∷ 0x00 ∷ 0x00 ∷ 0x00 ∷ 0x01 ∷ [])) 9 12 true
    -- 13 and 14: file data of another transfer, without an offset
    ∷ given receiving 16 40 (packet (0x34 ∷ 0x00 ∷ 0x01 ∷ 0x00 ∷ 0x01 ∷ 0x06 ∷ 0x02 ∷ 0x00 ∷ [])) 10 13 true
    -- 14: file data without an offset
    ∷ given receiving 16 40 (packet (0x34 ∷ 0x00 ∷ 0x01 ∷ 0x00 ∷ 0x01 ∷ 0x05 ∷ 0x02 ∷ 0x00 ∷ [])) 11 14 false
    -- 20 and 19: progress at its end, and a byte beyond the store
    ∷ given full 16 40 (packet (0x34 ∷ 0x00 ∷ 0x05 ∷ 0x00 ∷ 0x01 ∷ 0x05 ∷ 0x02 ∷ 0x00 ∷ 0x00 ∷ 0x00 ∷ 0x10 ∷ 0x01 ∷ [])) 12 20 true
    -- 19: a byte beyond the store
    ∷ given receiving 16 40 (packet (0x34 ∷ 0x00 ∷ 0x05 ∷ 0x00 ∷ 0x01 ∷ 0x05 ∷ 0x02 ∷ 0x00 ∷ 0x00 ∷ 0x00 ∷ 0x10 ∷ 0x01 ∷ [])) 13 19 false
    -- 12 and 13: an EOF while idle
    ∷ given fresh 16 40 (packet (0x24 ∷ 0x00 ∷ 0x0a ∷ 0x00 ∷ 0x01 ∷ 0x05 ∷ 0x02 ∷ 0x04 ∷ 0x00 ∷ 0x00 ∷ 0x00 ∷ 0x00 ∷ 0x00 ∷ 0x00 ∷ 0x00 ∷ 0x00 ∷ 0x05 ∷ [])) 12 12 true
    -- 13 and 14: an EOF of another transfer, of one byte
    ∷ given receiving 16 40 (packet (0x24 ∷ 0x00 ∷ 0x01 ∷ 0x00 ∷ 0x01 ∷ 0x06 ∷ 0x02 ∷ 0x04 ∷ [])) 13 13 true
    -- 14: an EOF of one byte
    ∷ given receiving 16 40 (packet (0x24 ∷ 0x00 ∷ 0x01 ∷ 0x00 ∷ 0x01 ∷ 0x05 ∷ 0x02 ∷ 0x04 ∷ [])) 14 14 false
    -- 10 and 14: an EOF with a condition, one byte too long
    ∷ given receiving 16 40 (packet (0x24 ∷ 0x00 ∷ 0x0b ∷ 0x00 ∷ 0x01 ∷ 0x05 ∷ 0x02 ∷ 0x04 ∷ 0x10 ∷ 0x00 ∷ 0x00 ∷ 0x00 ∷ 0x00 ∷ 0x00 ∷ 0x00 ∷ 0x00 ∷ 0x05 ∷ 0x00 ∷ [])) 15 10 true
    -- 14: an EOF one byte too long
    ∷ given receiving 16 40 (packet (0x24 ∷ 0x00 ∷ 0x0b ∷ 0x00 ∷ 0x01 ∷ 0x05 ∷ 0x02 ∷ 0x04 ∷ 0x00 ∷ 0x00 ∷ 0x00 ∷ 0x00 ∷ 0x00 ∷ 0x00 ∷ 0x00 ∷ 0x00 ∷ 0x05 ∷ 0x00 ∷ [])) 16 14 false
    ∷ []
