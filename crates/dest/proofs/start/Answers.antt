-- `dest::start` meets its contract: the transfer, the names and the indication are the definition's.
use Rattle.dest.specs.Metadata.{begun_of, start_of, metadata_note}
use Rattle.dest.specs.Call.{start_called}
use Rattle.dest.proofs.start.Goals as goal

pub returns : goal.returns
unfolding start_called begun_of start_of metadata_note
returns c =
    rw (c.begin.ensures, c.only.ensures, c.id.ensures, c.started-t.ensures, c.name-source.ensures.result_value, c.name-dest.ensures.result_value, c.requires)
