-- One call of the receiver: from state, store, out buffer, optional PDU and timer flag to the new state, the answer, the PDU sent, the
-- indications in order, the store and the out buffer. First the PDU is inserted; if it is refused the call stops there, and the flag
-- isn't looked at; otherwise the busy steps run.
use Rattle.transfer.specs.Transfer.{Note}
use Rattle.std.specs.Prelude.{ℕ, Bool, false, cond, List, [], ◌∷◌, ◌++◌, Option, Some, None, eqb, length}
use Rattle.codes.specs.Codes.{filestore_rejection, file_checksum_failure, file_size_error, check_limit_reached, unsupported_checksum_type}
use Rattle.codes.specs.Refusals.{refusal_of}
use Rattle.laws.specs.First.{first_of}
use Rattle.header.specs.Header.{conf_of, fields_of, data_field}
use Rattle.header.specs.declared.CommonPduConfig.{CommonPduConfig}
use Rattle.packet_info.specs.Routing.{is_file_data, kind_of, packet_order}
use Rattle.packet_info.specs.declared.Target.{Target}
use Rattle.filestore.specs.File.{file_of}
use Rattle.config.specs.Config.{handler_of, entries_of, find_in}
use Rattle.config.specs.declared.Config.{Config}
use Rattle.config.specs.declared.RemoteEntityConfig.{RemoteEntityConfig}
use Rattle.finished.specs.declared.EntityId.{EntityId}
use Rattle.steps.specs.Busy.{busy_of, Left}
use Rattle.transfer.specs.declared.Indication.{Indication}
use Rattle.steps.specs.declared.Faults.{Faults}
use Rattle.steps.specs.declared.Remote.{Remote}
use Rattle.state.specs.State.{busy, settled}
use Rattle.state.specs.Unfit.{unfit_order, unfit_refusal}
use Rattle.state.specs.declared.State.{State}
use Rattle.inserting.specs.Insert.{Inserted, refused_insert, file_data_placed, eof_inserted}
use Rattle.dest.specs.Metadata.{metadata_refusal, begun_of, metadata_note}
use Rattle.dest.specs.declared.Indications.{Indications}
use Rattle.dest.specs.declared.Called as code

-- an optional PDU
pub data Input : Type 0 where
  poll : Input
  packet : List ℕ → Input

-- what a call answers: the answer's number, the new state, how many bytes of a PDU were sent, the indications
pub record Called : Type 0 where
  pub answer : ℕ
  pub state : State
  pub sent : ℕ
  pub notes : Indications

-- what a call leaves
pub record Outcome : Type 0 where
  pub called : Called
  pub store : List ℕ
  pub out : List ℕ

abbrev pub called : ℕ → State → ℕ → Indications → Called
called n s sent notes = record { answer = n; state = s; sent = sent; notes = notes }

-- the code's answer in those terms
abbrev pub called_seen : code.Called → Called
called_seen c = called (refusal_of c.answer) c.state c.sent c.notes

abbrev pub outcome : Called → List ℕ → List ℕ → Outcome
outcome c store out = record { called = c; store = store; out = out }

abbrev pub notes : Note → Note → Note → Note → Note → Indications
notes a b c d e = record { first = a; second = b; third = c; fourth = d; fifth = e }

abbrev pub no_notes : Indications
no_notes = notes None None None None None

-- the indications in order
abbrev pub told : Note → List Indication
told None = []
told (Some i) = i ∷ []

abbrev pub listed : Indications → List Indication
listed n = told n.first ++ (told n.second ++ (told n.third ++ (told n.fourth ++ told n.fifth)))

-- a refusal leaves state, store and out as they were, with no indication
abbrev pub refused_call : ℕ → State → List ℕ → List ℕ → Outcome
refused_call n s store out = outcome (called n s 0 no_notes) store out

-- the handlers of the faults that a transfer can meet
unfoldable pub faults_of : List ℕ → Faults
faults_of h =
    record {
      filestore = handler_of h filestore_rejection;
      checksum = handler_of h file_checksum_failure;
      filesize = handler_of h file_size_error;
      checklimit = handler_of h check_limit_reached;
      unsupported = handler_of h unsupported_checksum_type;
    }

-- the remote entity of a transfer, and the local one (a source without entry has limit 0 and no discard; 21 excludes it in a busy state)
abbrev pub remote_by : EntityId → Option RemoteEntityConfig → Remote
remote_by local (Some e) = record { limit = e.limit; discard = e.discard; local = local }
remote_by local None = record { limit = 0; discard = false; local = local }

unfoldable pub remote_of : Config → ℕ → Remote
remote_of g source = remote_by g.local (find_in (entries_of g.table g.entries) source)

-- the busy steps behind an insertion
unfoldable pub ran_of : State → Inserted → List ℕ → Left → Outcome
ran_of s i store b =
    outcome
    (called 0 (settled s b.busy.state) b.busy.sent (notes i.first i.second i.third b.busy.checked b.busy.finished))
    store
    b.out

unfoldable pub busy_call : State → Inserted → List ℕ → List ℕ → Bool → Outcome
busy_call s i store out timer =
    ran_of s i store
    (busy_of (faults_of s.config.handlers) (remote_of s.config s.transfer.conf.source) i.transfer store out timer)

-- a PDU that is not taken: 19 leaves the transfer to fault 4's handler and gives its indications; any other changes nothing
unfoldable pub refused_of : State → Inserted → Called
refused_of s i =
    cond (eqb i.answer 19)
    (called 19 (settled s i.transfer) 0 (notes i.first i.second None None None))
    (called i.answer s 0 no_notes)

-- after an insertion, which left the store so: the busy steps, unless the PDU was refused
unfoldable pub after_insert : State → Inserted → List ℕ → List ℕ → Bool → Outcome
after_insert s i store out timer =
    cond (eqb i.answer 0) (busy_call s i store out timer) (outcome (refused_of s i) store out)

-- file data, by the header's conf c and segment metadata flag m and the data field d
unfoldable pub file_data_call : State → List ℕ → List ℕ → CommonPduConfig → Bool → List ℕ → Bool → Outcome
file_data_call s store out c m d timer =
    after_insert s
    (file_data_placed (handler_of s.config.handlers filestore_rejection) s.config.segmentrecv s.transfer store c m d).inserted
    (file_data_placed (handler_of s.config.handlers filestore_rejection) s.config.segmentrecv s.transfer store c m d).store
    out
    timer

-- EOF
unfoldable pub eof_call : State → List ℕ → List ℕ → CommonPduConfig → List ℕ → Bool → Outcome
eof_call s store out c d timer =
    after_insert s
    (eof_inserted (faults_of s.config.handlers) s.config.eofrecv s.transfer (file_of store s.transfer.file.length) c d)
    store
    out
    timer

-- Metadata: the transfer starts in the same call, and the busy steps leave it so (proofs/Started.antt)
unfoldable pub start_called : State → CommonPduConfig → List ℕ → Called
start_called s c d =
    called 0 (begun_of s c d) 0 (notes (metadata_note c d) None None None None)

unfoldable pub started_call : State → CommonPduConfig → List ℕ → Called
started_call s c d =
    cond (eqb (metadata_refusal s c d) 0) (start_called s c d)
    (called (metadata_refusal s c d) s 0 no_notes)

-- by the PDU's kind
abbrev pub target_call : Target → State → List ℕ → List ℕ → CommonPduConfig → Bool → List ℕ → Bool → Outcome
target_call Target.FileData s store out c m d timer = file_data_call s store out c m d timer
target_call Target.Metadata s store out c m d timer = outcome (started_call s c d) store out
target_call Target.Eof s store out c m d timer = eof_call s store out c d timer

-- what is looked at before a PDU is handled: 21, 1, 2, then the header's and the routing's refusals
unfoldable pub entry_order : State → ℕ → ℕ → List ℕ → List (ℕ × Bool)
entry_order s size out pdu = unfit_order s size out ++ packet_order pdu s.config.local.value

unfoldable pub entry_refusal : State → ℕ → ℕ → List ℕ → ℕ
entry_refusal s size out pdu = first_of (entry_order s size out pdu)

-- a call with a PDU
unfoldable pub insert_call : State → List ℕ → List ℕ → List ℕ → Bool → Outcome
insert_call s store out pdu timer =
    cond (eqb (entry_refusal s (length store) (length out) pdu) 0)
    (target_call (kind_of (is_file_data pdu) (data_field pdu)) s store out (conf_of pdu) (fields_of pdu).segmentmetadata (data_field pdu) timer)
    (refused_call (entry_refusal s (length store) (length out) pdu) s store out)

-- a call without one: idle, nothing happens
unfoldable pub poll_call : State → List ℕ → List ℕ → Bool → Outcome
poll_call s store out timer =
    cond (eqb (unfit_refusal s (length store) (length out)) 0)
    (cond (busy s) (busy_call s (refused_insert 0 s.transfer) store out timer) (refused_call 0 s store out))
    (refused_call (unfit_refusal s (length store) (length out)) s store out)

-- one call
unfoldable pub call_of : State → List ℕ → List ℕ → Input → Bool → Outcome
call_of s store out poll timer = poll_call s store out timer
call_of s store out (packet pdu) timer = insert_call s store out pdu timer
