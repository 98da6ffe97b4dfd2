-- `steps::completion::transfer_completion` meets its contract: with closure the writer's answer and buffer are those of the definition; without, the buffer stays.
use borrow.Author.Tests.{not-true, not-false}
use Rattle.laws.proofs.Tests.{cond-true, cond-false}
use Rattle.steps.specs.Completion.{completion_of}
use Rattle.steps.proofs.completion.transfer_completion.Goals as goal

pub returns-then-not-t : goal.returns-then-not-t
unfolding completion_of
returns-then-not-t c =
    rw (cond-false (not-true _ c.if-not-t.true), c.idle_after-state.ensures, c.kept_length.ensures, c.notice_of_completion-finished.ensures)

pub returns : goal.returns
unfolding completion_of
returns c =
    rw
    (cond-true (not-false _ c.if-not-t.false), c.idle_after-state.ensures, c.kept_length.ensures, c.notice_of_completion-finished.ensures, c.sent_bytes.ensures, ← c.finish.ensures, ← c.write-written.ensures)
