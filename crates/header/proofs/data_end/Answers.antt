-- `header::data_end` meets its contract: what its two callees ensure, added.
use Rattle.header.specs.Header.{data_end}
use Rattle.header.proofs.data_end.Goals as goal

pub returns : goal.returns
unfolding data_end
returns c = rw (c.header_end.ensures.value, c.read.ensures.value)
