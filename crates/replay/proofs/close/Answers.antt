-- `replay::close` meets its contract: the text of the tally's line.
use Rattle.replay.specs.Replay.{tally_of}
use Rattle.replay.proofs.close.Goals as goal

pub returns : goal.returns
unfolding tally_of
returns c = c.tally_text.ensures
