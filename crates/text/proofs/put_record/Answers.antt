-- `text::put_record` meets its contract: its six pieces stand one behind the other, and each fits since the whole line does.
use Prim.Native.Nat.{◌≤◌}
use mathlib.Core.List.{append_assoc}
use native.Mathlib.Omega.{arith}
use lib.ListN.{length}
use Rattle.text.specs.Text.{record_line}
use Rattle.text.proofs.Laws.{length_record, no_shorter, append_then}
use Rattle.text.proofs.put_record.Goals as goal

pub put_decimal-requires : goal.put_decimal-requires
put_decimal-requires c = omega (arith, length_record c.args.number c.args.answer c.args.sent)

pub push-requires : goal.push-requires
push-requires c = omega (arith, length_record c.args.number c.args.answer c.args.sent, no_shorter c.put_decimal.ensures.appended)

pub put_decimal-requires-2 : goal.put_decimal-requires-2
put_decimal-requires-2 c = omega (arith, length_record c.args.number c.args.answer c.args.sent, no_shorter c.put_decimal.ensures.appended, no_shorter c.push.ensures.appended)

pub push-requires-2 : goal.push-requires-2
push-requires-2 c = omega (arith, length_record c.args.number c.args.answer c.args.sent, no_shorter c.put_decimal.ensures.appended, no_shorter c.push.ensures.appended, no_shorter c.put_decimal-2.ensures.appended)

pub put_decimal-requires-3 : goal.put_decimal-requires-3
put_decimal-requires-3 c = omega (arith, length_record c.args.number c.args.answer c.args.sent, no_shorter c.put_decimal.ensures.appended, no_shorter c.push.ensures.appended, no_shorter c.put_decimal-2.ensures.appended, no_shorter c.push-2.ensures.appended)

pub push-requires-3 : goal.push-requires-3
push-requires-3 c = omega (arith, length_record c.args.number c.args.answer c.args.sent, no_shorter c.put_decimal.ensures.appended, no_shorter c.push.ensures.appended, no_shorter c.put_decimal-2.ensures.appended, no_shorter c.push-2.ensures.appended, no_shorter c.put_decimal-3.ensures.appended)

pub returns-clause-appended : goal.returns-clause-appended
unfolding record_line
returns-clause-appended c =
    let within : c.args.c.now.at ≤ length c.args.c.now.buffer.now = omega arith in
    let first = append_then within c.put_decimal.ensures.appended c.push.ensures.appended in
    let second = append_then within (append_then within first c.put_decimal-2.ensures.appended) c.push-2.ensures.appended in
    simp append_assoc at (append_then within (append_then within second c.put_decimal-3.ensures.appended) c.push-3.ensures.appended)
