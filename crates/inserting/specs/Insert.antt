-- File data and EOF PDUs inserted into a transfer: their refusals in 01's order, and what they leave.
use Rattle.std.specs.Prelude.{Some, None}
use Rattle.transfer.specs.Transfer.{Note}
use Rattle.std.specs.Prelude.{ℕ, Bool, cond, not, ◌&&◌, ◌||◌, List, [], ◌∷◌, ◌++◌, eqb, length}
use Rattle.laws.specs.First.{first_of}
use Rattle.header.specs.declared.CommonPduConfig.{CommonPduConfig}
use Rattle.bodies.specs.FileData as body
use Rattle.bodies.specs.Eof as eof
use Rattle.transfer.specs.Transfer.{id_of, is_receiving, is_waiting}
use Rattle.transfer.specs.Segment.{segmented_of, segment_order, Segmented, Kept}
use Rattle.steps.specs.Eof.{eof_handled_of}
use Rattle.transfer.specs.declared.TransactionStep.{TransactionStep}
use Rattle.transfer.specs.declared.TransferState.{TransferState}
use Rattle.transfer.specs.declared.Indication.{Indication}
use Rattle.steps.specs.declared.Faults.{Faults}
use Rattle.steps.specs.declared.EofHandled.{EofHandled}
use Rattle.codes.specs.Refusals.{refusal_of}
use Rattle.inserting.specs.declared.Inserted as code

-- 12: file data outside the receiving and waiting steps, EOF outside receiving
abbrev pub takes_data : TransactionStep → Bool
takes_data x = is_receiving x || is_waiting x

-- 13: source id or sequence number, as values, differ from the running transfer
unfoldable pub other : TransferState → CommonPduConfig → Bool
other t c = not (eqb c.source t.conf.source && eqb c.seqnum t.conf.seqnum)

-- the refusals before the body is looked at, where `takes` says whether the step takes such a PDU
unfoldable pub place_order : Bool → TransferState → CommonPduConfig → List (ℕ × Bool)
place_order takes t c = (12, not takes) ∷ (13, other t c) ∷ []

-- what a file data PDU carries, by its header's conf c and segment metadata flag m and its data field d: the segment, and its offset
-- in the file
abbrev pub segment_offset : CommonPduConfig → Bool → List ℕ → ℕ
segment_offset c m d = (body.fields_of d c.largefile m).offset

abbrev pub segment_bytes : CommonPduConfig → Bool → List ℕ → List ℕ
segment_bytes c m d = body.segment_of d (body.fields_of d c.largefile m).segmentat

-- file data before its segment is written: 12, 13, 14
unfoldable pub body_order : TransferState → CommonPduConfig → Bool → List ℕ → List (ℕ × Bool)
body_order t c m d = place_order (takes_data t.step) t c ++ ((14, body.malformed d c.largefile m) ∷ [])

-- file data: 12, 13, 14, 20, 19
unfoldable pub file_data_order : TransferState → CommonPduConfig → Bool → List ℕ → ℕ → List (ℕ × Bool)
file_data_order t c m d size =
    body_order t c m d ++ segment_order t size (segment_offset c m d) (length (segment_bytes c m d))

-- EOF: 12, 13, 14 (under 2 bytes), 10, 14 (length)
unfoldable pub eof_call_order : TransferState → CommonPduConfig → List ℕ → List (ℕ × Bool)
eof_call_order t c d = place_order (is_receiving t.step) t c ++ eof.eof_order d c.largefile

-- what inserting a PDU leaves: the answer, the transfer, the indications so far; and the store
pub record Inserted : Type 0 where
  pub answer : ℕ
  pub transfer : TransferState
  pub first : Note
  pub second : Note
  pub third : Note

pub record Placed : Type 0 where
  pub inserted : Inserted
  pub store : List ℕ

abbrev pub placed : Inserted → List ℕ → Placed
placed i store = record { inserted = i; store = store }

abbrev pub inserted : ℕ → TransferState → Note → Note → Note → Inserted
inserted n t first second third = record { answer = n; transfer = t; first = first; second = second; third = third }

-- the code's answer in those terms
abbrev pub inserted_seen : code.Inserted → Inserted
inserted_seen i = inserted (refusal_of i.answer) i.transfer i.first i.second i.third

abbrev pub refused_insert : ℕ → TransferState → Inserted
refused_insert n t = inserted n t None None None

-- the segment indication, if configured
abbrev pub segment_note : Bool → TransferState → ℕ → ℕ → Note
segment_note notify t o n = cond notify (Some (Indication.Segment (id_of t) o n)) None

-- a segment by its answer: 0 and 19 give the indication, 20 gives none
unfoldable pub segment_taken : Segmented → Note → Inserted
segment_taken k note =
    inserted k.answer k.state (cond (eqb k.answer 20) None note) k.report None

unfoldable pub segment_placed : Bool → TransferState → ℕ → ℕ → Kept → Placed
segment_placed notify t o n k = placed (segment_taken k.segmented (segment_note notify t o n)) k.store

unfoldable pub body_refusal : TransferState → CommonPduConfig → Bool → List ℕ → ℕ
body_refusal t c m d = first_of (body_order t c m d)

-- file data, with the handler h of fault 4
unfoldable pub file_data_placed : ℕ → Bool → TransferState → List ℕ → CommonPduConfig → Bool → List ℕ → Placed
file_data_placed h notify t store c m d =
    cond (eqb (body_refusal t c m d) 0)
    (segment_placed notify t (segment_offset c m d) (length (segment_bytes c m d)) (segmented_of h t store (segment_offset c m d) (segment_bytes c m d)))
    (placed (refused_insert (body_refusal t c m d) t) store)

-- the EOF indication, if configured
abbrev pub eof_note : Bool → TransferState → Note
eof_note notify t = cond notify (Some (Indication.Eof (id_of t))) None

unfoldable pub eof_call_refusal : TransferState → CommonPduConfig → List ℕ → ℕ
eof_call_refusal t c d = first_of (eof_call_order t c d)

-- an EOF that is handled
unfoldable pub eof_taken : Bool → TransferState → EofHandled → Inserted
eof_taken notify t e = inserted 0 e.state (eof_note notify t) e.sizefault e.sumfault

-- an EOF
unfoldable pub eof_inserted : Faults → Bool → TransferState → List ℕ → CommonPduConfig → List ℕ → Inserted
eof_inserted f notify t file c d =
    cond (eqb (eof_call_refusal t c d) 0)
    (eof_taken notify t (eof_handled_of f t file (eof.fields_of d c.largefile)))
    (refused_insert (eof_call_refusal t c d) t)
