-- `dest::eof` meets its contract: what the EOF leaves, and the call behind it.
use Rattle.dest.specs.Call.{eof_call}
use Rattle.dest.proofs.eof.Goals as goal

pub returns : goal.returns
unfolding eof_call
returns c = rw (← c.faults.ensures, ← c.file-file.ensures, ← c.handle_eof_pdu-i.ensures) c.after_insert.ensures
