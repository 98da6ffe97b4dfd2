-- Past both tests the number has a digit more, and there is room for it: the digits but the last, and the last behind them.
use Rattle.laws.proofs.Appends.{room_next, append-none, append_more}
use Rattle.text.proofs.Laws.{digits_more}
use Rattle.text.proofs.+put_digits.Goals as goal

pub returns-then-places-eq0-clause-appended : goal.returns-then-places-eq0-clause-appended
returns-then-places-eq0-clause-appended t c = rw c.if-places-eq0.true (append-none _ _)

pub push-requires-2 : goal.push-requires-2
push-requires-2 t c =
    let more = digits_more c.args.places c.args.n c.if-places-eq0.false c.if-n-lt10.false in
    record { fits = (room_next c.put_digits.ensures.appended (rw more at c.requires)).fits }

pub returns-clause-appended : goal.returns-clause-appended
returns-clause-appended t c =
    let more = digits_more c.args.places c.args.n c.if-places-eq0.false c.if-n-lt10.false in
    rw more (append_more (rw more at c.requires) c.put_digits.ensures.appended (rw c.digit-2.ensures at c.push-2.ensures.appended))
