-- `dest::handle_metadata_pdu` meets its contract: the body's answer decides.
use borrow.Author.Tests.{eq-eqb, ne_eqb}
use Rattle.codes.proofs.Refusals.{number-zero, ok_tells, err_tells}
use Rattle.dest.specs.Call.{started_call}
use Rattle.dest.proofs.handle_metadata_pdu.Goals as goal

pub start-requires : goal.start-requires
start-requires c = (ok_tells _ _ _ _ c.metadata_body.ensures c.in-Ok.is).1

pub returns-in-Ok : goal.returns-in-Ok
unfolding started_call
returns-in-Ok c = rw (eq-eqb _ 0 (ok_tells _ _ _ _ c.metadata_body.ensures c.in-Ok.is).0) c.start.ensures

pub returns-in-Err : goal.returns-in-Err
unfolding started_call
returns-in-Err c =
    rw
    (c.unchanged.ensures, ← err_tells _ _ _ _ c.metadata_body.ensures c.in-Err.is, ne_eqb _ 0 (number-zero c.in-Err.refusal))
