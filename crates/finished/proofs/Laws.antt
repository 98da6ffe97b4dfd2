-- What callers use of the definition: the size of the out buffer decides.
use Prim.Native.Nat.{ℕ, ◌<◌, ◌≤◌}
use mathlib.Core.Path.{◌≡◌}
use mathlib.Core.List.{List}
use lib.ListN.{length}
use borrow.Author.Tests.{lt-ltb, le-ltb}
use Rattle.codes.specs.Refusals.{Answer}
use Rattle.laws.specs.Parts.{filled}
use Rattle.header.specs.declared.CommonPduConfig.{CommonPduConfig}
use Rattle.finished.specs.Finished.{out_size, finished_bytes, finished_of, sent}
use Rattle.finished.specs.declared.EntityId.{EntityId}
use Rattle.finished.specs.declared.FinishedPdu.{FinishedPdu}

module _ (out : List ℕ) (conf : CommonPduConfig) (f : FinishedPdu) (local : EntityId) where
  -- a buffer that is too small stays
  pub finished_short : length out < out_size → finished_of out conf f local ≡ sent (Answer.Refused 2) out
  unfolding finished_of
  finished_short h = rw (lt-ltb (length out) out_size h)

  -- any other starts with the PDU
  pub finished_long : out_size ≤ length out → finished_of out conf f local ≡ sent (Answer.Good (length (finished_bytes conf f local))) (filled out (finished_bytes conf f local))
  unfolding finished_of
  finished_long h = rw (le-ltb (length out) out_size h)
