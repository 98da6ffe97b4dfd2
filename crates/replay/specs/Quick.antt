-- A record on the quick way. proofs/Quick.antt says that where it is done it is the step, and that where it is not nothing has changed.
use Rattle.std.specs.Prelude.{ℕ, ◌+◌, true, List, [], Option, Some, None}
use Rattle.laws.specs.Parts.{stretch}
use Rattle.transfer.specs.declared.FileState.{FileState}
use Rattle.dest.specs.Call.{notes}
use Rattle.quick.specs.Quick.{Quick, general, quick_seen, quick_of, with_quick}
use Rattle.text.specs.Text.{record_text, text_of}
use Rattle.recording.specs.Record.{record_of}
use Rattle.recording.specs.Tally.{counted}
use Rattle.recording.specs.declared.record.RecordRead.{RecordRead}
use Rattle.recording.specs.declared.record.RecordRead.TheVariants.{End, Bad, Poll, Packet}
use Rattle.replay.specs.Replay.{onward, Stepped}
use Rattle.replay.specs.declared.Replay.{Replay}
use Rattle.replay.specs.declared.QuickStep as code

-- a record of that many bytes, with what its call hands back; and the store
pub record QuickStep : Type 0 where
  pub used : ℕ
  pub call : Quick

abbrev pub quick_step : ℕ → Quick → QuickStep
quick_step used q = record { used = used; call = q }

pub record Tried : Type 0 where
  pub quick : QuickStep
  pub store : List ℕ

abbrev pub tried : QuickStep → List ℕ → Tried
tried q store = record { quick = q; store = store }

-- how many bytes of a record are looked at: those of a PDU's
abbrev pub looked_at : RecordRead → ℕ
looked_at End = 0
looked_at Bad = 0
looked_at (Poll timer) = 0
looked_at (Packet timer n) = 4 + n

-- what the code has done, in those terms, where the file is f
abbrev pub quick_done : FileState → code.QuickStep → QuickStep
quick_done f q = quick_step q.used (quick_seen f (Some q.call))

-- the code's answer in those terms, where that record stands at the start of s
abbrev pub quick_step_seen : RecordRead → FileState → Option code.QuickStep → QuickStep
quick_step_seen r f None = quick_step (looked_at r) (general f)
quick_step_seen r f (Some q) = quick_done f q

-- by what stands at the start of s: a PDU alone
abbrev pub quick_step_by : RecordRead → Replay → List ℕ → ℕ → List ℕ → Tried
quick_step_by End m store out s = tried (quick_step 0 (general m.state.transfer.file)) store
quick_step_by Bad m store out s = tried (quick_step 0 (general m.state.transfer.file)) store
quick_step_by (Poll timer) m store out s = tried (quick_step 0 (general m.state.transfer.file)) store
quick_step_by (Packet timer n) m store out s =
    tried (quick_step (4 + n) (quick_of m.state store out (stretch s 4 (4 + n))).quick) (quick_of m.state store out (stretch s 4 (4 + n))).store

unfoldable pub quick_step_of : Replay → List ℕ → ℕ → List ℕ → Tried
quick_step_of m store out s = quick_step_by (record_of s) m store out s

-- the recording behind it
unfoldable pub moved_of : Replay → QuickStep → Replay
moved_of m q =
    record {
      state = with_quick m.state q.call.file;
      number = onward m.number 1;
      offset = onward m.offset q.used;
      tally = counted m.tally q.call.answer q.call.count;
    }

-- the step that it stands for
abbrev pub quick_stepped : Replay → QuickStep → Stepped
quick_stepped m q =
    record {
      text = text_of (record_text (onward m.number 1) q.call.answer []);
      notes = notes q.call.note None None None None;
      more = true;
      used = q.used;
      replay = moved_of m q;
    }
