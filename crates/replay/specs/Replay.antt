-- What the recording program prints: the whole output as a list of bytes, from the recording as a list of bytes.
use Rattle.std.specs.Prelude.{Bool, Result, Ok, Err, ℕ, zero, suc, ◌+◌, ◌-◌, ◌^◌, min, true, false, cond, List, [], ◌++◌, length, take, drop, replicate}
use Rattle.laws.specs.Parts.{stretch}
use Rattle.finished.specs.Finished.{out_size}
use Rattle.state.specs.State.{fresh_of}
use Rattle.state.specs.declared.State.{State}
use Rattle.dest.specs.declared.Indications.{Indications}
use Rattle.dest.specs.Call.{Input, Outcome, no_notes, call_of}
use Rattle.text.specs.Text.{mark_line, record_text, bad_line, tally_line, text_of, pdu_size}
use Rattle.text.specs.declared.Text.{Text}
use Rattle.recording.specs.Settings.{settings_bad, store_length, whole_size, config_of}
use Rattle.recording.specs.Record.{record_of}
use Rattle.recording.specs.Tally.{no_tally, counted, data_bytes}
use Rattle.recording.specs.declared.record.RecordRead.{RecordRead}
use Rattle.recording.specs.declared.record.RecordRead.TheVariants.{End, Bad, Poll, Packet}
use Rattle.recording.specs.declared.tally.Tally.{Tally}
use Rattle.replay.specs.declared.Replay.{Replay}
use Rattle.replay.specs.declared.Stepped as code-step
use Rattle.replay.specs.declared.Opened as code-opened

-- a record's number and a place in the recording are counted in 64 bits, and stop at 2^64 - 1
abbrev pub onward : ℕ → ℕ → ℕ
onward n k = min (n + k) (2 ^ 64 - 1)

-- before the first record of a recording whose header has that many bytes
unfoldable pub start_of : State → ℕ → Replay
start_of s size = record { state = s; number = 0; offset = size; tally = no_tally }

-- what a step leaves: what it prints, the call's indications, whether the reading goes on, how many bytes it took, the receiver; and the store and the out buffer
pub record Stepped : Type 0 where
  pub text : Text
  pub notes : Indications
  pub more : Bool
  pub used : ℕ
  pub replay : Replay

pub record Step : Type 0 where
  pub stepped : Stepped
  pub store : List ℕ
  pub out : List ℕ

abbrev pub step : Stepped → List ℕ → List ℕ → Step
step r store out = record { stepped = r; store = store; out = out }

-- the reading ends, with that text before the tally
abbrev pub stopped_with : Replay → Text → Stepped
stopped_with m t = record { text = t; notes = no_notes; more = false; used = 0; replay = m }

-- the code's answer in those terms: without a step the reading ends
abbrev pub stepped_seen : Replay → Result code-step.Stepped Text → Stepped
stepped_seen m (Err t) = stopped_with m t
stepped_seen m (Ok d) = record { text = d.text; notes = d.notes; more = true; used = d.used; replay = d.replay }

-- a call of the receiver, for a record of that many bytes with n bytes of file data: its number, its answer and the PDUs sent, then a sent PDU's bytes
unfoldable pub after_call : Replay → ℕ → ℕ → Outcome → Stepped
after_call m used n o =
    record {
      text = text_of (record_text (onward m.number 1) o.called.answer (take pdu_size (take o.called.sent o.out)));
      notes = o.called.notes;
      more = true;
      used = used;
      replay = record {
        state = o.called.state;
        number = onward m.number 1;
        offset = onward m.offset used;
        tally = counted m.tally o.called.answer n;
      };
    }

abbrev pub call_step : Replay → ℕ → ℕ → Outcome → Step
call_step m used n o = step (after_call m used n o) o.store o.out

-- by what stands at the start of s
abbrev pub step_by : RecordRead → Replay → List ℕ → List ℕ → List ℕ → Step
step_by End m store out s = step (stopped_with m (text_of [])) store out
step_by Bad m store out s = step (stopped_with m (text_of (bad_line m.offset))) store out
step_by (Poll timer) m store out s = call_step m 2 0 (call_of m.state store out Input.poll timer)
step_by (Packet timer n) m store out s =
    call_step m (4 + n) (data_bytes (stretch s 4 (4 + n))) (call_of m.state store out (Input.packet (stretch s 4 (4 + n))) timer)

unfoldable pub step_of : Replay → List ℕ → List ℕ → List ℕ → Step
step_of m store out s = step_by (record_of s) m store out s

-- the bytes of a text
abbrev pub shown : Text → List ℕ
shown t = take t.len t.bytes

-- the last line
unfoldable pub tally_of : Tally → List ℕ
tally_of t = tally_line t.accepted t.refused t.bytes

-- what is printed from a record on, where s is the rest of the recording (in at most that many steps: each record has two bytes or more)
unfoldable pub printed_in : ℕ → Replay → List ℕ → List ℕ → List ℕ → List ℕ
printed_in zero m store out s = tally_of m.tally
printed_in (suc steps) m store out s =
    shown (step_of m store out s).stepped.text
    ++ cond (step_of m store out s).stepped.more
    (printed_in steps (step_of m store out s).stepped.replay (step_of m store out s).store (step_of m store out s).out
    (drop (step_of m store out s).stepped.used s))
    (tally_of m.tally)

unfoldable pub printed : Replay → List ℕ → List ℕ → List ℕ → List ℕ
printed m store out s = printed_in (length s) m store out s

-- what reading the header leaves: the first line, whether the reading goes on, the store's length, how many bytes it took, the receiver
pub record Opened : Type 0 where
  pub text : Text
  pub more : Bool
  pub store : ℕ
  pub used : ℕ
  pub replay : Replay

abbrev pub opened_with : List ℕ → Bool → Text → Opened
opened_with s more t =
    record { text = t; more = more; store = store_length s; used = whole_size s; replay = start_of (fresh_of (config_of s)) (whole_size s) }

unfoldable pub opened_of : List ℕ → Opened
opened_of s = cond (settings_bad s) (opened_with s false (text_of (bad_line 0))) (opened_with s true (text_of mark_line))

-- the code's answer in those terms: without a receiver the reading ends
abbrev pub opened_seen : List ℕ → Result code-opened.Opened Text → Opened
opened_seen s (Err t) = opened_with s false t
opened_seen s (Ok o) = record { text = o.text; more = true; store = o.store; used = o.used; replay = o.replay }

-- the whole output, for a store and an out buffer of zeros
unfoldable pub output_of : List ℕ → List ℕ
output_of s =
    shown (opened_of s).text
    ++ cond (opened_of s).more
    (printed (opened_of s).replay (replicate (opened_of s).store 0) (replicate out_size 0) (drop (opened_of s).used s))
    (tally_of (opened_of s).replay.tally)
