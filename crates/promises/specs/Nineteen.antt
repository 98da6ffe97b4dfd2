-- 19: a segment that does not fit the store.
use Rattle.std.specs.Prelude.{None}
use Rattle.std.specs.Prelude.{ℕ, List, length}
use Rattle.codes.specs.Codes.{filestore_rejection}
use Rattle.header.specs.Header.{conf_of, fields_of, data_field}
use Rattle.filestore.specs.Contents.{Segment}
use Rattle.config.specs.Config.{handler_of}
use Rattle.transfer.specs.Fault.{handled, reported}
use Rattle.state.specs.State.{settled}
use Rattle.state.specs.declared.State.{State}
use Rattle.inserting.specs.Insert.{segment_offset, segment_bytes, segment_note}
use Rattle.dest.specs.Call.{Outcome, outcome, called, notes}

-- the segment that a file data PDU carries
abbrev pub segment_in : List ℕ → Segment
segment_in pdu =
    record {
      offset = segment_offset (conf_of pdu) (fields_of pdu).segmentmetadata (data_field pdu);
      bytes = segment_bytes (conf_of pdu) (fields_of pdu).segmentmetadata (data_field pdu);
    }

-- the handler of fault 4
abbrev pub filestore_handler : State → ℕ
filestore_handler s = handler_of s.config.handlers filestore_rejection

-- what the call leaves for a segment of n bytes at o: store and out as they were; the state is what fault 4's handler makes of it; the segment
-- indication if configured, and the fault 4 report
abbrev pub unfit_outcome : State → List ℕ → List ℕ → ℕ → ℕ → Outcome
unfit_outcome s store out o n =
    outcome
    (called 19 (settled s (handled (filestore_handler s) s.transfer filestore_rejection)) 0
    (notes (segment_note s.config.segmentrecv s.transfer o n) (reported (filestore_handler s) s.transfer filestore_rejection)
    None
    None
    None))
    store
    out

-- a call with a PDU whose segment does not fit
abbrev pub unfit_call : State → List ℕ → List ℕ → List ℕ → Outcome
unfit_call s store out pdu = unfit_outcome s store out (segment_in pdu).offset (length (segment_in pdu).bytes)
