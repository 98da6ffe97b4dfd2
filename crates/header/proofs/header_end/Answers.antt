-- `header::header_end` meets its contract: the code is the definition, and each width is at most 8.
use mathlib.Core.Path.{refl}
use native.Mathlib.Omega.{arith}
use Rattle.header.specs.Header.{header_end}
use Rattle.header.proofs.header_end.Goals as goal

pub returns : goal.returns
unfolding header_end
returns c = record { value = refl; small = omega arith }
