-- Parts of a list of bytes: a stretch of it, and what it is after bytes were put into it.
use Rattle.std.specs.Prelude.{ℕ, ◌+◌, ◌-◌, Bool, cond, ◌&&◌, List, ◌++◌, length, take, drop, leb}

-- the elements from index a up to, not including, index e
unfoldable pub stretch : List ℕ → ℕ → ℕ → List ℕ
stretch s a e = take (e - a) (drop a s)

-- s with the bytes d at index at, in place of those that stood there
unfoldable pub pasted : List ℕ → ℕ → List ℕ → List ℕ
pasted s at d = take at s ++ (d ++ drop (at + length d) s)

-- the same where d fits, and s itself where it does not
unfoldable pub written : List ℕ → ℕ → List ℕ → List ℕ
written s at d = cond (leb (at + length d) (length s)) (pasted s at d) s

-- s with its first bytes replaced by d
unfoldable pub filled : List ℕ → List ℕ → List ℕ
filled s d = d ++ drop (length d) s

-- whether b lies between lo and hi, both included
abbrev pub within : ℕ → ℕ → ℕ → Bool
within lo hi b = leb lo b && leb b hi
