-- `inserting::handle_eof_pdu` meets its contract: the body, then the handling.
use borrow.Author.Tests.{eq-eqb, ne_eqb}
use Rattle.codes.proofs.Refusals.{number-zero, ok_tells, err_tells}
use Rattle.inserting.specs.Insert.{eof_inserted, eof_taken}
use Rattle.inserting.proofs.handle_eof_pdu.Goals as goal

pub returns-in_default : goal.returns-in_default
unfolding eof_inserted
returns-in_default c =
    let told = err_tells _ _ _ _ c.eof_body-read.ensures c.unwrap_err.ensures in
    rw (c.left_alone.ensures, ← told, ne_eqb _ 0 (number-zero c.unwrap_err.result))

pub returns : goal.returns
unfolding eof_inserted eof_taken
returns c =
    let g = ok_tells _ _ _ _ c.eof_body-read.ensures c.in-Ok.is in
    let k = rw g.1 at c.handle_no_error_eof_pdu-done.ensures in
    rw (eq-eqb _ 0 g.0, ← k, c.eof_recvd_indication.ensures)
