-- `bodies::file_data::segment` meets its contract: the part from a place to the end is what is left there; past the end nothing is.
use native.Mathlib.Omega.{arith}
use lib.ListN.{drop_of_length-le}
use lib.Seq.{drop-length}
use Rattle.laws.proofs.Lists.{rest_of}
use Rattle.bodies.specs.FileData.{segment_of}
use Rattle.bodies.proofs.file_data.segment.Goals as goal

pub returns-then-end-at : goal.returns-then-end-at
unfolding segment_of
returns-then-end-at c = rw (rest_of, drop-length, drop_of_length-le c.args.field.now {i = c.args.at} (omega arith))

pub returns : goal.returns
unfolding segment_of
returns c = rest_of c.args.field.now c.args.at
