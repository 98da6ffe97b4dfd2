-- `replay::after_call` meets its contract: each part by what its callee ensures.
use Rattle.replay.specs.Replay.{after_call}
use Rattle.replay.proofs.after_call.Goals as goal

pub returns : goal.returns
unfolding after_call
returns c =
    rw (c.after_call.ensures.tallied, c.advance.ensures, c.record_text.ensures, c.front.ensures, c.advance-number.ensures, c.answer_number-answer.ensures)
