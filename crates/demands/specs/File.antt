-- The file over a run: the segments of its transfer that were accepted, in the order of arrival, and whether it was discarded.
use Rattle.std.specs.Prelude.{Some, None}
use Rattle.transfer.specs.Transfer.{Note}
use Rattle.std.specs.Prelude.{ℕ, Bool, false, cond, not, ◌&&◌, List, [], ◌∷◌, ◌++◌, eqb}
use Rattle.header.specs.Header.{data_field}
use Rattle.packet_info.specs.Routing.{is_metadata, is_file_data, kind_of}
use Rattle.filestore.specs.Contents.{Segment}
use Rattle.transfer.specs.declared.Indication.{Indication}
use Rattle.dest.specs.Call.{Input, poll, packet, Outcome}
use Rattle.promises.specs.Nineteen.{segment_in}
use Rattle.demands.specs.Runs.{Held, Given, called_with, after}

-- after an accepted PDU: file data are one segment more, a Metadata starts a transfer that has none
abbrev pub with_pdu : List Segment → List ℕ → List Segment
with_pdu segments pdu =
    cond (is_file_data pdu) (segments ++ (segment_in pdu ∷ []))
    (cond (is_metadata (kind_of (is_file_data pdu) (data_field pdu))) [] segments)

abbrev pub with_call : List Segment → Input → ℕ → List Segment
with_call segments poll answer = segments
with_call segments (packet pdu) answer = cond (eqb answer 0) (with_pdu segments pdu) segments

-- over a run
unfoldable pub segments_after : List Segment → Held → List Given → List Segment
segments_after segments h [] = segments
segments_after segments h (x ∷ rest) =
    segments_after (with_call segments x.input (called_with h x).called.answer) (after (called_with h x)) rest

-- whether the file was discarded: a Finished indication says it, and a Metadata starts a file that is not
abbrev pub says_discarded : Bool → Note → Bool
says_discarded was None = was
says_discarded was (Some (Indication.Metadata i n)) = was
says_discarded was (Some (Indication.Segment i o n)) = was
says_discarded was (Some (Indication.Eof i)) = was
says_discarded was (Some (Indication.Finished i c d retained)) = not retained
says_discarded was (Some (Indication.Fault h i c p)) = was

abbrev pub starts_file : Input → ℕ → Bool
starts_file poll answer = false
starts_file (packet pdu) answer = eqb answer 0 && is_metadata (kind_of (is_file_data pdu) (data_field pdu))

abbrev pub discarded_by : Bool → Input → Outcome → Bool
discarded_by was i o = cond (starts_file i o.called.answer) false (says_discarded was o.called.notes.fifth)

-- over a run
unfoldable pub discarded_after : Bool → Held → List Given → Bool
discarded_after was h [] = was
discarded_after was h (x ∷ rest) =
    discarded_after (discarded_by was x.input (called_with h x)) (after (called_with h x)) rest
