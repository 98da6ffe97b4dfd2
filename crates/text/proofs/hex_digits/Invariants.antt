-- `text::hex_digits` meets its contract. The loop's invariant: the digits of the bytes so far stand at the start of the zeros.
use lib.ListN.{take, replicate}
use Rattle.laws.specs.Appending.{Appended}
use Rattle.text.specs.Text.{hex_of}
use Prim.Native.Nat.{◌*◌}
use Rattle.text.proofs.hex_digits.Given as goal

abbrev pub invariant-loop-k : goal.invariant-loop-k
invariant-loop-k l = Appended (replicate 128 0) 0 (hex_of (take l.k l.block)) (2 * l.k) l.digits
