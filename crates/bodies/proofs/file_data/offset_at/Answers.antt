-- `bodies::file_data::offset_at` meets its contract: the flag picks the branch, and where no byte is there the count is that of 0.
use mathlib.Core.Path.{refl}
use native.Mathlib.Omega.{arith}
use lib.ListN.{get_or-eq_default}
use Rattle.bodies.proofs.file_data.offset_at.Goals as goal

pub returns-then-not-metadata : goal.returns-then-not-metadata
returns-then-not-metadata c = rw (c.if-not-metadata.true) record { value = refl; small = omega arith }

pub returns-then-field-eq0 : goal.returns-then-field-eq0
returns-then-field-eq0 c =
    rw (c.if-not-metadata.false, get_or-eq_default c.args.field.now 0 {n = 0} (omega arith)) record { value = refl; small = omega arith }

pub returns : goal.returns
returns c = rw (c.if-not-metadata.false) record { value = refl; small = omega arith }
