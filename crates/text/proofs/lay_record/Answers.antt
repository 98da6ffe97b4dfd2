-- `text::lay_record` meets its contract: past the two tests there is room for a text, and so for the line.
use Prim.Native.Nat.{◌+◌}
use mathlib.Core.Path.{refl}
use mathlib.Core.List.{[]}
use native.Mathlib.Omega.{arith}
use lib.Dec.{lit<}
use lib.ListN.{length}
use borrow.Author.Tests.{le-leb, lt-leb}
use Rattle.std.proofs.Common.{rules}
use Rattle.text.specs.Text.{text_size, laid_of}
use Rattle.text.proofs.Laws.{record_at_most, record_none, laid_lem}
use Rattle.text.proofs.lay_record.Goals as goal

pub returns-then-sheet-at : goal.returns-then-sheet-at
unfolding laid_of
returns-then-sheet-at c = rw (lt-leb (c.args.at + text_size) (length c.args.sheet.now) (omega arith))

pub returns-then-sheet-at-lt-TEXT_SIZE : goal.returns-then-sheet-at-lt-TEXT_SIZE
unfolding laid_of
returns-then-sheet-at-lt-TEXT_SIZE c = rw (lt-leb (c.args.at + text_size) (length c.args.sheet.now) (omega arith))

pub put_record-requires : goal.put_record-requires
put_record-requires c = record { fits = omega (arith, record_at_most c.args.number c.args.answer 0 (omega arith) (lit< tt)) }

pub returns : goal.returns
unfolding laid_of
returns c =
    rw (le-leb (c.args.at + text_size) (length c.args.sheet.now) (omega arith), record_none c.args.number c.args.answer [] refl)
    (laid_lem c.put_record.ensures.appended (search rules))
