-- Pieces put into a buffer one behind the other.
use Rattle.std.specs.Prelude.{ℕ, ◌+◌, ◌≤◌, ◌≡◌, List, length}
use Rattle.laws.specs.Parts.{pasted}

-- s has room for the piece d at index at
pub record Room (s : List ℕ) (at : ℕ) (d : List ℕ) : Type 0 where
  pub fits : at + length d ≤ length s

-- the piece d was put into s at index at: next is the index behind it, and out what s became
pub record Appended (s : List ℕ) (at : ℕ) (d : List ℕ) (next : ℕ) (out : List ℕ) : Type 0 where
  pub ends : next ≡ at + length d
  pub bytes : out ≡ pasted s at d
