-- What the reader of a Metadata body is told of a name at a place.
use Rattle.std.specs.Prelude.{ℕ, cond, List, Option, Some, None}
use Rattle.bodies.specs.Metadata.{name_whole, name_end}

-- the place behind a whole name
unfoldable pub name_read : List ℕ → ℕ → Option ℕ
name_read s at = cond (name_whole s at) (Some (name_end s at)) None
