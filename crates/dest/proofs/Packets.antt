-- What callers use of a PDU that is looked at: where nothing refuses it, its kind and header are the definition's, and so is the data field.
use Prim.Native.Nat.{ℕ}
use mathlib.Core.Path.{◌≡◌, sym, ap, ◌∙◌}
use mathlib.Core.List.{List}
use Rattle.std.specs.Prelude.{Result, Ok}
use Rattle.codes.specs.Refusals.{unless, answered}
use Rattle.codes.specs.declared.Refusal.{Refusal}
use Rattle.codes.proofs.Refusals.{ok_tells}
use Rattle.laws.specs.Parts.{stretch}
use Rattle.header.specs.Header.{data_field, fields_of, conf_of}
use Rattle.header.proofs.Laws.{part_of}
use Rattle.packet_info.specs.Routing.{is_file_data, kind_of, info_of}
use Rattle.packet_info.specs.declared.PacketInfo.{PacketInfo}
use Rattle.packet_info.specs.declared.Target.{Target}
use Rattle.state.specs.declared.State.{State}
use Rattle.inserting.specs.FileData.{Took, taken_of}
use Rattle.dest.specs.Call.{entry_refusal}

-- a PDU that is taken: no refusal is told, and its kind and header are the definition's
module _ (s : State) (size out : ℕ) (pdu : List ℕ) {r : Result PacketInfo Refusal} (i : PacketInfo) (e : answered r ≡ unless (entry_refusal s size out pdu) (info_of pdu)) (is : r ≡ Ok i) where
  pub entered : entry_refusal s size out pdu ≡ 0
  entered = (ok_tells _ _ i r e is).0

  pub info : i ≡ info_of pdu
  info = (ok_tells _ _ i r e is).1

  pub kind : (t : Target) → i.target ≡ t → t ≡ kind_of (is_file_data pdu) (data_field pdu)
  kind t told = sym told ∙ ap (λ (x : PacketInfo). x.target) info

-- its data field, as its header has it
pub field_of : (pdu : List ℕ) {i : PacketInfo} {field : List ℕ} → i ≡ info_of pdu → field ≡ stretch pdu i.header.headerend i.header.dataend → field ≡ data_field pdu
field_of pdu i e = part_of pdu (ap (λ (x : PacketInfo). x.header) i) e

-- file data are inserted by the fields of its header
pub carried : (pdu : List ℕ) (s : State) (store : List ℕ) {i : PacketInfo} {k : Took} {field : List ℕ} → i ≡ info_of pdu → field ≡ stretch pdu i.header.headerend i.header.dataend → k ≡ taken_of s.transfer store i.header.conf i.header.segmentmetadata field → k ≡ taken_of s.transfer store (conf_of pdu) (fields_of pdu).segmentmetadata (data_field pdu)
unfolding fields_of
carried pdu s store i part e = rw (field_of pdu i part, i) at e
