-- Each refusal exactly when: the order of a call's refusals as data, by the kind of PDU. The conditions are 01's, each beside its number.
use Rattle.std.specs.Prelude.{ℕ, Bool, List, ◌++◌}
use Rattle.header.specs.Header.{conf_of, fields_of, data_field}
use Rattle.header.specs.declared.CommonPduConfig.{CommonPduConfig}
use Rattle.packet_info.specs.Routing.{is_file_data, kind_of}
use Rattle.packet_info.specs.declared.Target.{Target}
use Rattle.packet_info.specs.declared.Target.TheVariants.{FileData, Metadata, Eof}
use Rattle.state.specs.Unfit.{unfit_order}
use Rattle.state.specs.declared.State.{State}
use Rattle.inserting.specs.Insert.{file_data_order, eof_call_order}
use Rattle.dest.specs.Metadata.{metadata_order}
use Rattle.dest.specs.Call.{Input, poll, packet, entry_order}

-- Metadata: 11, 10 (mode), 14, 15, 10 (both empty), 16, 17, 18, 10 (option). File data: 12, 13, 14, 20, 19. EOF: 12, 13, 14, 10, 14
abbrev pub kind_order_of : Target → State → ℕ → CommonPduConfig → Bool → List ℕ → List (ℕ × Bool)
kind_order_of FileData s size c m d = file_data_order s.transfer c m d size
kind_order_of Metadata s size c m d = metadata_order s c d
kind_order_of Eof s size c m d = eof_call_order s.transfer c d

-- a call: 21, 1, 2; with a PDU then the header's, 7, 8, 10, 9, and the kind's
unfoldable pub call_order : State → ℕ → ℕ → Input → List (ℕ × Bool)
call_order s size out poll = unfit_order s size out
call_order s size out (packet pdu) =
    entry_order s size out pdu
    ++ kind_order_of (kind_of (is_file_data pdu) (data_field pdu)) s size (conf_of pdu) (fields_of pdu).segmentmetadata (data_field pdu)
