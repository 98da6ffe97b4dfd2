-- `parts::Cursor::push` meets its contract: there is room, so a store puts the byte.
use mathlib.Core.Path.{refl}
use native.Mathlib.Omega.{arith}
use Rattle.laws.proofs.Pasting.{pasted_one}
use Rattle.parts.proofs.Cursor.push.Goals as goal

pub returns-clause-appended : goal.returns-clause-appended
returns-clause-appended c =
    let a = c.args in record { ends = refl; bytes = pasted_one a.self.now.buffer.now a.self.now.at a.b (omega arith) }
