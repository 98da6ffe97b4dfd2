-- `bodies::file_data::read` meets its contract: the place behind the offset is where the data stand, and the test there is the definition's.
use Prim.Native.Nat.{◌+◌}
use mathlib.Core.Path.{◌≡◌}
use borrow.Author.Tests.{lt-ltb, le-ltb}
use Rattle.bodies.specs.FileData.{data_at, malformed, fields_of, file_data_of}
use Rattle.bodies.proofs.file_data.read.Goals as goal

-- the data stand behind the offset
ends : (c : goal.Then-cut) → (let a = c.args in c.offset_at-at.result + c.bytes.result ≡ data_at a.field.now a.large a.metadata)
unfolding data_at
ends c = rw (c.offset_at-at.ensures.value, c.bytes.ensures.value, c.size_width-width.ensures)

-- the data stand behind the offset
ends_2 : (c : goal.After-read) → (let a = c.args in c.offset_at-at.result + c.bytes.result ≡ data_at a.field.now a.large a.metadata)
unfolding data_at
ends_2 c = rw (c.offset_at-at.ensures.value, c.bytes.ensures.value, c.size_width-width.ensures)

pub returns-then-cut : goal.returns-then-cut
unfolding file_data_of malformed
returns-then-cut c = rw (← ends c, lt-ltb _ _ c.if-cut.true)

pub returns : goal.returns
unfolding file_data_of malformed fields_of
returns c = rw (← ends_2 c, le-ltb _ _ c.if-cut.false, c.read.ensures.value, c.offset_at-at.ensures.value, c.size_width-width.ensures)
