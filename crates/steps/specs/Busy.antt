-- The busy steps of a call: the waiting step where the timer flag is set, then completion where the transfer has come to it.
use Rattle.std.specs.Prelude.{None}
use Rattle.std.specs.Prelude.{ℕ, Bool, cond, ◌&&◌, List}
use Rattle.filestore.specs.File.{file_of}
use Rattle.transfer.specs.Transfer.{is_waiting, is_completion}
use Rattle.steps.specs.Waiting.{check_of}
use Rattle.steps.specs.Completion.{completion_of}
use Rattle.transfer.specs.declared.TransferState.{TransferState}
use Rattle.steps.specs.declared.Faults.{Faults}
use Rattle.transfer.specs.declared.Declared.{Declared}
use Rattle.steps.specs.declared.Remote.{Remote}
use Rattle.steps.specs.declared.Busy.{Busy}

-- what the busy steps leave, the out buffer with it
pub record Left : Type 0 where
  pub busy : Busy
  pub out : List ℕ

abbrev pub left : Busy → List ℕ → Left
left b out = record { busy = b; out = out }

-- the waiting step, where it applies
unfoldable pub waited_of : Faults → Remote → TransferState → List ℕ → Bool → Declared
waited_of f r t store timer =
    cond (timer && is_waiting t.step) (check_of f r.limit t (file_of store t.file.length))
    (record { state = t; report = None })

-- completion, where the transfer has come to it
unfoldable pub ended_of : Remote → Declared → List ℕ → Left
ended_of r d out =
    cond (is_completion d.state.step)
    (left
    (record {
      state = (completion_of r.local r.discard d.state out).completed.state;
      checked = d.report;
      finished = (completion_of r.local r.discard d.state out).completed.finished;
      sent = (completion_of r.local r.discard d.state out).completed.sent;
    })
    (completion_of r.local r.discard d.state out).out)
    (left (record { state = d.state; checked = d.report; finished = None; sent = 0 }) out)

unfoldable pub busy_of : Faults → Remote → TransferState → List ℕ → List ℕ → Bool → Left
busy_of f r t store out timer = ended_of r (waited_of f r t store timer) out
