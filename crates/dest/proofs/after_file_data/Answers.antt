-- `dest::after_file_data` meets its contract: what file data leave, and the call behind it.
use Rattle.dest.specs.FileData.{data_call}
use Rattle.dest.proofs.after_file_data.Goals as goal

pub returns : goal.returns
unfolding data_call
returns c = rw (← c.handler-handler.ensures, ← c.segment_inserted-inserted.ensures) c.after_insert.ensures
