-- Pieces that are put one behind the other are one piece.
use Prim.Native.Nat.{ℕ}
use mathlib.Core.Path.{sym, ap, ◌∙◌}
use mathlib.Core.List.{List, [], ◌++◌}
use native.Mathlib.Nat.{add-zero}
use native.Mathlib.Omega.{arith}
use lib.ListN.{length, length-append}
use Rattle.laws.proofs.Pasting.{pasted-none, pasted_more, length-pasted}
use Rattle.laws.specs.Appending.{Room, Appended}

-- room for two pieces is room for the first, and behind it for the second
pub room_here : {s : List ℕ} {at : ℕ} {d : List ℕ} (e : List ℕ) → Room s at (d ++ e) → Room s at d
room_here {s} {at} {d} e h = record { fits = omega (arith, length-append d e) }

pub room_next : {s t : List ℕ} {at n : ℕ} {d e : List ℕ} → Appended s at d n t → Room s at (d ++ e) → Room t n e
room_next {s} {t} {at} {n} {d} {e} p h =
    let k : Room s at d = room_here e h in
    record { fits = omega (arith, p.ends, ap length p.bytes, length-pasted s at d k.fits, length-append d e) }

-- nothing is put
pub append-none : (s : List ℕ) (at : ℕ) → Appended s at [] at s
append-none s at = record { ends = sym (add-zero at); bytes = sym (pasted-none s at) }

-- a piece, and another behind it, are one
pub append_more : {s t u : List ℕ} {at n m : ℕ} {d e : List ℕ} → Room s at (d ++ e) → Appended s at d n t → Appended t n e m u → Appended s at (d ++ e) m u
append_more {s} {t} {u} {at} {n} {m} {d} {e} h p q =
    record {
      ends = rw length-append (omega (arith, p.ends, q.ends));
      bytes = q.bytes ∙ rw (p.bytes, p.ends) (pasted_more s at d e (omega arith));
    }
