-- How `text::Hex` is printed: each turn writes the digits of a block behind those of the blocks before it.
use mathlib.Core.Path.{sym}
use mathlib.Core.List.{◌++◌}
use lib.ListN.{take}
use Rattle.std.proofs.Common.{rules}
use Rattle.std.proofs.Output.{has_written_append, has_written_of_eq}
use Rattle.text.specs.Text.{hex_of}
use Rattle.text.proofs.Laws.{hex_append, taken_on}
use Rattle.text.proofs.HexDisplay.fmt.Goals as goal

pub loop-left-preserved : goal.loop-left-preserved
loop-left-preserved g c = λ p.
    let took = g.W.Write.write_str_gives in
    let l = c.loop-left.left.now in
    let n = c.min-n.result in
    let so_far = c.loop-left.invariant p in
    let done = so_far.0 in
    let before = so_far.1.1 in
    let block = c.in_ok-write_block.ensures before.plain (search rules) in
    let both = has_written_append took _ (hex_of done) _ (hex_of (take n l)) _ before block in
    (done ++ take n l, (taken_on _ done l n so_far.1.0, has_written_of_eq took _ _ _ _ (sym (hex_append done (take n l))) both))
