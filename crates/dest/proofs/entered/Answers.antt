-- `dest::entered` meets its contract: 21, 1 and 2, then the PDU's.
use mathlib.Core.Path.{sym, ◌∙◌}
use Rattle.codes.proofs.Refusals.{number-zero, ok_none, err_told, passed}
use Rattle.packet_info.specs.Routing.{packet_of}
use Rattle.dest.proofs.Laws.{unfit_first, packet_next}
use Rattle.dest.proofs.entered.Goals as goal

pub returns-in_err-unfit : goal.returns-in_err-unfit
returns-in_err-unfit c =
    let told = err_told c.unfit.ensures c.in_err-unfit.was in
    passed _ _ _ _ c.from_residual.ensures.1 (told ∙ sym (unfit_first _ _ _ c.args.pdu.now (λ z. number-zero _ (told ∙ z))))

pub returns : goal.returns
unfolding packet_of
returns c = c.new.ensures ∙ rw (packet_next _ _ _ c.args.pdu.now (ok_none c.unfit.ensures c.in_ok-unfit.was))
