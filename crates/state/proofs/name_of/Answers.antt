-- `state::name_of` meets its contract: as many bytes as the name has, at most 255, are copied, and the rest is 0.
use Rattle.std.proofs.lemmas.List.{length-take, take_min}
use Rattle.laws.specs.Parts.{filled}
use Rattle.state.specs.State.{name_of}
use Rattle.state.proofs.name_of.Goals as goal

pub returns : goal.returns
unfolding name_of filled
returns c = rw (c.copy_from_slice.ensures.after, c.min-len.ensures, length-take, take_min)
