-- `text::tally_text` meets its contract: its seven pieces, put one behind the other at the start of zeros, are the line, which fits.
use Prim.Native.Nat.{zero-le}
use mathlib.Core.List.{append_assoc}
use native.Mathlib.Omega.{arith}
use Rattle.std.proofs.Common.{rules}
use Rattle.text.specs.Text.{tally_line}
use Rattle.text.proofs.Laws.{decimal_at_most, no_shorter, append_then, text_of_lem}
use Rattle.text.proofs.tally_text.Goals as goal

pub put_decimal-requires : goal.put_decimal-requires
put_decimal-requires c = omega (arith, decimal_at_most c.args.accepted, decimal_at_most c.args.refused, decimal_at_most c.args.received, no_shorter c.put.ensures.appended)

pub push-requires : goal.push-requires
push-requires c = omega (arith, decimal_at_most c.args.accepted, decimal_at_most c.args.refused, decimal_at_most c.args.received, no_shorter c.put.ensures.appended, no_shorter c.put_decimal.ensures.appended)

pub put_decimal-requires-2 : goal.put_decimal-requires-2
put_decimal-requires-2 c = omega (arith, decimal_at_most c.args.accepted, decimal_at_most c.args.refused, decimal_at_most c.args.received, no_shorter c.put.ensures.appended, no_shorter c.put_decimal.ensures.appended, no_shorter c.push.ensures.appended)

pub push-requires-2 : goal.push-requires-2
push-requires-2 c = omega (arith, decimal_at_most c.args.accepted, decimal_at_most c.args.refused, decimal_at_most c.args.received, no_shorter c.put.ensures.appended, no_shorter c.put_decimal.ensures.appended, no_shorter c.push.ensures.appended, no_shorter c.put_decimal-2.ensures.appended)

pub put_decimal-requires-3 : goal.put_decimal-requires-3
put_decimal-requires-3 c = omega (arith, decimal_at_most c.args.accepted, decimal_at_most c.args.refused, decimal_at_most c.args.received, no_shorter c.put.ensures.appended, no_shorter c.put_decimal.ensures.appended, no_shorter c.push.ensures.appended, no_shorter c.put_decimal-2.ensures.appended, no_shorter c.push-2.ensures.appended)

pub push-requires-3 : goal.push-requires-3
push-requires-3 c = omega (arith, decimal_at_most c.args.accepted, decimal_at_most c.args.refused, decimal_at_most c.args.received, no_shorter c.put.ensures.appended, no_shorter c.put_decimal.ensures.appended, no_shorter c.push.ensures.appended, no_shorter c.put_decimal-2.ensures.appended, no_shorter c.push-2.ensures.appended, no_shorter c.put_decimal-3.ensures.appended)

pub returns : goal.returns
unfolding tally_line
returns c =
    let word = append_then zero-le c.put.ensures.appended c.put_decimal.ensures.appended in
    let first = append_then zero-le (append_then zero-le word c.push.ensures.appended) c.put_decimal-2.ensures.appended in
    let second = append_then zero-le (append_then zero-le first c.push-2.ensures.appended) c.put_decimal-3.ensures.appended in
    text_of_lem (simp append_assoc at (append_then zero-le second c.push-3.ensures.appended)) (search rules)
