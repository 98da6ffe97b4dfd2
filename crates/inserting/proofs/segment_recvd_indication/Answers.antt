-- `inserting::segment_recvd_indication` meets its contract: the flag decides.

use Rattle.inserting.proofs.segment_recvd_indication.Goals as goal

pub returns-then-notify : goal.returns-then-notify
returns-then-notify c = rw (c.if-notify.true, c.id.ensures)
