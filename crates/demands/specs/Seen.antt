-- What a caller sees of a call: its indications, and the file in the store.
use Rattle.std.specs.Prelude.{Some, None}
use Rattle.transfer.specs.Transfer.{Note}
use Rattle.std.specs.Prelude.{ℕ, ◌≡◌, Bool, true, false, ◌||◌, List, eqb}
use Rattle.codes.specs.Codes.{file_checksum_failure, abandon_transaction}
use Rattle.header.specs.Header.{conf_of, data_field}
use Rattle.bodies.specs.Eof as eof
use Rattle.filestore.specs.File.{file_of}
use Rattle.transfer.specs.Fault.{cancels, abandons, ignores}
use Rattle.transfer.specs.declared.Indication.{Indication}
use Rattle.dest.specs.Call.{Outcome}
use Rattle.demands.specs.Runs.{Held, Given, called_with}

-- the Finished indication, and an abandon report: a fault whose handler abandons
abbrev pub is_finished : Note → Bool
is_finished None = false
is_finished (Some (Indication.Metadata i n)) = false
is_finished (Some (Indication.Segment i o n)) = false
is_finished (Some (Indication.Eof i)) = false
is_finished (Some (Indication.Finished i c d r)) = true
is_finished (Some (Indication.Fault h i c p)) = false

abbrev pub is_abandon : Note → Bool
is_abandon None = false
is_abandon (Some (Indication.Metadata i n)) = false
is_abandon (Some (Indication.Segment i o n)) = false
is_abandon (Some (Indication.Eof i)) = false
is_abandon (Some (Indication.Finished i c d r)) = false
is_abandon (Some (Indication.Fault h i c p)) = eqb h abandon_transaction

abbrev pub is_end : Note → Bool
is_end i = is_finished i || is_abandon i

-- whether a call gives an indication of that kind
abbrev pub gives : (Note → Bool) → Outcome → Bool
gives p o =
    let n = o.called.notes in
    p n.first || (p n.second || (p n.third || (p n.fourth || p n.fifth)))

-- a transfer ends at a call that gives one of the two
abbrev pub ends : Outcome → Bool
ends o = gives is_end o

-- the Finished indication with a condition
abbrev pub FinishedWith : ℕ → Note → Type 0
FinishedWith c None = ⊥
FinishedWith c (Some (Indication.Metadata i n)) = ⊥
FinishedWith c (Some (Indication.Segment i o n)) = ⊥
FinishedWith c (Some (Indication.Eof i)) = ⊥
FinishedWith c (Some (Indication.Finished i x d r)) = x ≡ c
FinishedWith c (Some (Indication.Fault h i x p)) = ⊥

-- the report of a fault, with its handler
abbrev pub FaultBy : ℕ → ℕ → Note → Type 0
FaultBy handler c None = ⊥
FaultBy handler c (Some (Indication.Metadata i n)) = ⊥
FaultBy handler c (Some (Indication.Segment i o n)) = ⊥
FaultBy handler c (Some (Indication.Eof i)) = ⊥
FaultBy handler c (Some (Indication.Finished i x d r)) = ⊥
FaultBy handler c (Some (Indication.Fault h i x p)) = (h ≡ handler) × (x ≡ c)

-- the report of a sum that failed, by a handler that ignores: the wait starts
abbrev pub SumIgnored : Note → Type 0
SumIgnored None = ⊥
SumIgnored (Some (Indication.Metadata i n)) = ⊥
SumIgnored (Some (Indication.Segment i o n)) = ⊥
SumIgnored (Some (Indication.Eof i)) = ⊥
SumIgnored (Some (Indication.Finished i c d r)) = ⊥
SumIgnored (Some (Indication.Fault h i c p)) = (c ≡ file_checksum_failure) × (ignores h ≡ true)

-- whether a fault is reported whose handler cancels or abandons
abbrev pub is_ending : Note → Bool
is_ending None = false
is_ending (Some (Indication.Metadata i n)) = false
is_ending (Some (Indication.Segment i o n)) = false
is_ending (Some (Indication.Eof i)) = false
is_ending (Some (Indication.Finished i c d r)) = false
is_ending (Some (Indication.Fault h i c p)) = cancels h || abandons h

-- the file after a call's segment was written, before the timer flag is looked at: what the call leaves without its flag
abbrev pub unflagged : Given → Given
unflagged x = record { input = x.input; timer = false }

abbrev pub file_then : Held → Given → List ℕ
file_then h x =
    let o = called_with h (unflagged x) in
    file_of o.store o.called.state.transfer.file.length

-- the checksum that an EOF carries
abbrev pub checksum_in : List ℕ → ℕ
checksum_in pdu = (eof.fields_of (data_field pdu) (conf_of pdu).largefile).checksum
