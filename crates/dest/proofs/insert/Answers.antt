-- `dest::insert` meets its contract: what is looked at before the PDU is handled, or the handler of its kind. File data that leave the transfer receiving end here.
use Rattle.std.specs.Prelude.{None}
use Prim.Native.Nat.{ℕ}
use mathlib.Core.Path.{◌≡◌, refl, sym, ◌∙◌}
use mathlib.Core.Bool.{Bool, true}
use mathlib.Core.List.{List}
use lib.ListN.{length}
use borrow.Author.Tests.{eq-eqb, ne_eqb}
use Rattle.std.specs.Prelude.{Ok}
use Rattle.codes.proofs.Refusals.{number-zero, err_tells}
use Rattle.header.specs.Header.{data_field, fields_of, conf_of}
use Rattle.packet_info.specs.Routing.{is_file_data, kind_of}
use Rattle.packet_info.specs.declared.Target.{Target}
use Rattle.state.specs.declared.State.{State}
use Rattle.dest.specs.Call.{Input, outcome, called, notes, entry_refusal, target_call, call_of, insert_call}
use Rattle.inserting.specs.FileData.{Took, taken, taken_seen, taken_of}
use Rattle.inserting.specs.Insert.{segment_note}
use Rattle.inserting.specs.declared.Taken as code
use Rattle.transfer.specs.Transfer.{is_receiving, with_file}
use Rattle.transfer.specs.declared.FileState.{FileState}
use Rattle.dest.specs.FileData.{data_call}
use Rattle.dest.proofs.Packets.{entered, info, kind, field_of, carried}
use Rattle.dest.proofs.FileData.{data_call_lem, rested_tells, received-rests}
use Rattle.dest.proofs.insert.Goals as goal

-- the call is the one of its kind
goes : (s : State) (store out pdu : List ℕ) (timer : Bool) (t : Target) → entry_refusal s (length store) (length out) pdu ≡ 0 → t ≡ kind_of (is_file_data pdu) (data_field pdu) → call_of s store out (Input.packet pdu) timer ≡ target_call t s store out (conf_of pdu) (fields_of pdu).segmentmetadata (data_field pdu) timer
unfolding call_of insert_call
goes s store out pdu timer t e k = rw (eq-eqb _ 0 e, k)

pub returns-in_default : goal.returns-in_default
unfolding call_of insert_call
returns-in_default c =
    rw (c.unchanged.ensures, ← err_tells _ _ _ _ c.entered-read.ensures c.unwrap_err.ensures, ne_eqb _ 0 (number-zero c.unwrap_err.result))

pub returns-in-Metadata : goal.returns-in-Metadata
unfolding fields_of
returns-in-Metadata c =
    let a = c.args in
    let pdu = a.pdu.now in
    let i = info _ _ _ pdu _ c.entered-read.ensures c.in-Ok.is in
    let none = entered _ _ _ pdu _ c.entered-read.ensures c.in-Ok.is in
    let is = kind _ _ _ pdu _ c.entered-read.ensures c.in-Ok.is _ c.in-Metadata.is in
    let k = rw (field_of pdu i c.data_field-field.ensures, i) at c.handle_metadata_pdu.ensures in
    rw (goes a.s a.store.now a.out.now pdu a.timer Target.Metadata none is, k)

pub returns-in-Eof : goal.returns-in-Eof
unfolding fields_of
returns-in-Eof c =
    let a = c.args in
    let pdu = a.pdu.now in
    let i = info _ _ _ pdu _ c.entered-read.ensures c.in-Ok.is in
    let none = entered _ _ _ pdu _ c.entered-read.ensures c.in-Ok.is in
    let is = kind _ _ _ pdu _ c.entered-read.ensures c.in-Ok.is _ c.in-Eof.is in
    let k = rw (field_of pdu i c.data_field-field.ensures, i) at c.eof.ensures in
    rw (goes a.s a.store.now a.out.now pdu a.timer Target.Eof none is) k

-- file data: the call behind what they leave
goes_on : (s : State) (store out pdu : List ℕ) (timer : Bool) {k : Took} → entry_refusal s (length store) (length out) pdu ≡ 0 → Target.FileData ≡ kind_of (is_file_data pdu) (data_field pdu) → k ≡ taken_of s.transfer store (conf_of pdu) (fields_of pdu).segmentmetadata (data_field pdu) → call_of s store out (Input.packet pdu) timer ≡ data_call s k.left k.store out timer
goes_on s store out pdu timer none is e =
    rw
    (goes s store out pdu timer Target.FileData none is, data_call_lem s store out (conf_of pdu) (fields_of pdu).segmentmetadata (data_field pdu) timer, e)

pub returns-in_default-rested : goal.returns-in_default-rested
returns-in_default-rested c =
    let a = c.args in
    let pdu = a.pdu.now in
    let i = info _ _ _ pdu _ c.entered-read.ensures c.in-Ok.is in
    let none = entered _ _ _ pdu _ c.entered-read.ensures c.in-Ok.is in
    let is = kind _ _ _ pdu _ c.entered-read.ensures c.in-Ok.is _ c.in-FileData.is in
    c.after_file_data.ensures
    ∙ sym (goes_on a.s a.store.now a.out.now pdu a.timer none is (carried pdu a.s a.store.now i c.data_field-field.ensures c.handle_file_data-i.ensures))

-- taken in the receiving step, they leave the transfer with the file alone changed
stays : (s : State) (k : code.Taken) (f : FileState) (store out : List ℕ) (timer : Bool) → k.file ≡ Ok f → is_receiving s.transfer.step ≡ true → outcome (called 0 (record { config = s.config; transfer = with_file s.transfer f; last = s.last; source = s.source; dest = s.dest }) 0 (notes (segment_note s.config.segmentrecv s.transfer k.offset k.count) None None None None)) store out ≡ data_call s (taken_seen s.transfer.file k) store out timer
stays s k f store out timer e receives = rw e (received-rests s (taken 0 f k.offset k.count) store out timer refl receives)

pub returns : goal.returns
returns c =
    let a = c.args in
    let pdu = a.pdu.now in
    let i = info _ _ _ pdu _ c.entered-read.ensures c.in-Ok.is in
    let none = entered _ _ _ pdu _ c.entered-read.ensures c.in-Ok.is in
    let is = kind _ _ _ pdu _ c.entered-read.ensures c.in-Ok.is _ c.in-FileData.is in
    let on = goes_on a.s a.store.now a.out.now pdu a.timer none is (carried pdu a.s a.store.now i c.data_field-field.ensures c.handle_file_data-i.ensures) in
    let rests = rested_tells _ _ _ (sym c.rested.ensures ∙ c.in-Some.is) in
    rw (on, c.only.ensures, c.segment_recvd_indication-note.ensures)
    (stays a.s c.handle_file_data-i.result c.in-Some.file _ a.out.now a.timer rests.1 rests.0)
