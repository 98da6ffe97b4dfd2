-- `parts::Cursor::put` meets its contract: there is room, so the copy puts the piece at the index.
use mathlib.Core.Path.{◌∙◌, refl}
use native.Mathlib.Omega.{arith}
use Rattle.laws.proofs.Pasting.{written-fits}
use Rattle.parts.proofs.Cursor.put.Goals as goal

pub returns-clause-appended : goal.returns-clause-appended
returns-clause-appended c =
    let a = c.args in
    record {
      ends = refl;
      bytes = c.copy_at.ensures ∙ written-fits a.self.now.buffer.now a.self.now.at a.piece.now (omega arith);
    }
