-- `text::bad_text` meets its contract: its three pieces, put one behind the other at the start of zeros, are the line, which fits.
use Prim.Native.Nat.{zero-le}
use mathlib.Core.List.{append_assoc}
use native.Mathlib.Omega.{arith}
use Rattle.std.proofs.Common.{rules}
use Rattle.text.specs.Text.{bad_line}
use Rattle.text.proofs.Laws.{decimal_at_most, no_shorter, append_then, text_of_lem}
use Rattle.text.proofs.bad_text.Goals as goal

pub put_decimal-requires : goal.put_decimal-requires
put_decimal-requires c = omega (arith, decimal_at_most c.args.offset, no_shorter c.put.ensures.appended)

pub push-requires : goal.push-requires
push-requires c = omega (arith, decimal_at_most c.args.offset, no_shorter c.put.ensures.appended, no_shorter c.put_decimal.ensures.appended)

pub returns : goal.returns
unfolding bad_line
returns c =
    let word = append_then zero-le c.put.ensures.appended c.put_decimal.ensures.appended in
    text_of_lem (simp append_assoc at (append_then zero-le word c.push.ensures.appended)) (search rules)
