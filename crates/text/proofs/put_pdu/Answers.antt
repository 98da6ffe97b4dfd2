-- `text::put_pdu` meets its contract: its three pieces stand one behind the other, and each fits since the whole line does.
use Prim.Native.Nat.{◌≤◌}
use mathlib.Core.List.{append_assoc}
use native.Mathlib.Omega.{arith}
use lib.ListN.{length}
use Rattle.text.specs.Text.{pdu_line}
use Rattle.text.proofs.Laws.{length-pdu, no_shorter, append_then}
use Rattle.text.proofs.put_pdu.Goals as goal

pub put-requires : goal.put-requires
put-requires c = omega (arith, length-pdu c.args.pdu.now)

pub put_hex-requires : goal.put_hex-requires
put_hex-requires c = omega (arith, length-pdu c.args.pdu.now, no_shorter c.put.ensures.appended)

pub push-requires : goal.push-requires
push-requires c = omega (arith, length-pdu c.args.pdu.now, no_shorter c.put.ensures.appended, no_shorter c.put_hex.ensures.appended)

pub returns-clause-appended : goal.returns-clause-appended
unfolding pdu_line
returns-clause-appended c =
    let within : c.args.c.now.at ≤ length c.args.c.now.buffer.now = omega arith in
    let word = append_then within c.put.ensures.appended c.put_hex.ensures.appended in
    simp append_assoc at (append_then within word c.push.ensures.appended)
