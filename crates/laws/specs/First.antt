-- Which refusal is told: document 01's order as a list of numbers with their conditions.
use Rattle.std.specs.Prelude.{ℕ, Bool, cond, List, [], ◌∷◌}

-- the number of the first condition that holds, or 0 where none does
abbrev pub first_of : List (ℕ × Bool) → ℕ
first_of [] = 0
first_of (c ∷ rest) = cond c.1 c.0 (first_of rest)
