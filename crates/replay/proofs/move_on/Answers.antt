-- `replay::move_on` meets its contract: the numbers of what the call hands back.
use Rattle.replay.specs.Quick.{moved_of}
use Rattle.replay.proofs.move_on.Goals as goal

pub returns-in-Ok : goal.returns-in-Ok
unfolding moved_of
returns-in-Ok c = rw (c.in-Ok.is, c.apply.ensures, c.advance-m.ensures, c.advance-m-2.ensures, c.after_call-m.ensures.tallied)

pub returns-in-Err : goal.returns-in-Err
unfolding moved_of
returns-in-Err c = rw (c.in-Err.is, c.advance-m.ensures, c.advance-m-2.ensures, c.after_call-m-in-Err.ensures.tallied, c.number.ensures)
