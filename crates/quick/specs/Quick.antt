-- The quick way of a call: which calls it does, and what it hands back. proofs/Laws.antt says that where it is done it is the call, and that where it is not nothing has changed.
use Rattle.transfer.specs.Transfer.{Note}
use Rattle.std.specs.Prelude.{ℕ, Bool, true, false, cond, List, eqb, length, Option, Some, None, Result, Ok, Err}
use Rattle.codes.specs.Refusals.{number}
use Rattle.codes.specs.declared.Refusal.{Refusal}
use Rattle.header.specs.Header.{conf_of, fields_of, data_field}
use Rattle.header.specs.declared.CommonPduConfig.{CommonPduConfig}
use Rattle.packet_info.specs.Routing.{is_file_data, kind_of}
use Rattle.packet_info.specs.declared.Target.{Target}
use Rattle.transfer.specs.Transfer.{is_receiving, with_file}
use Rattle.transfer.specs.declared.FileState.{FileState}
use Rattle.transfer.specs.declared.TransferState.{TransferState}
use Rattle.state.specs.declared.State.{State}
use Rattle.inserting.specs.Insert.{segment_note}
use Rattle.inserting.specs.FileData.{Taken, Took, taken_of}
use Rattle.dest.specs.Call.{entry_refusal}
use Rattle.quick.specs.declared.Quick as code

-- whether the call is done; then its answer, the file's length and progress, how many bytes the segment has, and its indication
pub record Quick : Type 0 where
  pub done : Bool
  pub answer : ℕ
  pub file : FileState
  pub count : ℕ
  pub note : Note

-- a call that goes the general way, and one that is refused and changes nothing
abbrev pub general : FileState → Quick
general f = record { done = false; answer = 0; file = f; count = 0; note = None }

abbrev pub declined : ℕ → FileState → Quick
declined n f = record { done = true; answer = n; file = f; count = 0; note = None }

-- the code's answer in those terms: what is not a segment that was taken leaves the file f
abbrev pub quick_seen : FileState → Option (Result code.Quick Refusal) → Quick
quick_seen f None = general f
quick_seen f (Some (Err r)) = declined (number r) f
quick_seen f (Some (Ok q)) = record { done = true; answer = 0; file = q.file; count = q.count; note = q.note }

-- after file data in the receiving step: 19 goes the general way, another refusal changes nothing, a segment that was taken is its file and its indication
unfoldable pub taken_quick : Bool → TransferState → Taken → Quick
taken_quick notify t k =
    cond (eqb k.answer 19) (general t.file)
    (cond (eqb k.answer 0)
    (record { done = true; answer = 0; file = k.file; count = k.count; note = segment_note notify t k.offset k.count })
    (declined k.answer t.file))

-- what is handed back, and the store
pub record Quicked : Type 0 where
  pub quick : Quick
  pub store : List ℕ

abbrev pub quicked : Quick → List ℕ → Quicked
quicked q store = record { quick = q; store = store }

abbrev pub took_quick : Bool → TransferState → Took → Quicked
took_quick notify t k = quicked (taken_quick notify t k.left) k.store

-- by the PDU's kind: file data alone
abbrev pub target_quick : Target → State → List ℕ → CommonPduConfig → Bool → List ℕ → Quicked
target_quick Target.FileData s store c m d = took_quick s.config.segmentrecv s.transfer (taken_of s.transfer store c m d)
target_quick Target.Metadata s store c m d = quicked (general s.transfer.file) store
target_quick Target.Eof s store c m d = quicked (general s.transfer.file) store

-- a call with a PDU, while a transfer receives
unfoldable pub quick_of : State → List ℕ → ℕ → List ℕ → Quicked
quick_of s store out pdu =
    cond (is_receiving s.transfer.step)
    (cond (eqb (entry_refusal s (length store) out pdu) 0)
    (target_quick (kind_of (is_file_data pdu) (data_field pdu)) s store (conf_of pdu) (fields_of pdu).segmentmetadata (data_field pdu))
    (quicked (declined (entry_refusal s (length store) out pdu) s.transfer.file) store))
    (quicked (general s.transfer.file) store)

-- the state behind a call that is done
abbrev pub with_quick : State → FileState → State
with_quick s f = record { config = s.config; transfer = with_file s.transfer f; last = s.last; source = s.source; dest = s.dest }
