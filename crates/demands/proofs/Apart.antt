-- Neighbours in 01's order that can't both hold, or not without an earlier condition: they have no row in the table of cases (specs/Cases.antt).
use Prim.Native.Nat.{ℕ, ◌+◌, ◌<◌, ◌^◌}
use mathlib.Core.Path.{◌≡◌, refl}
use mathlib.Core.Bool.{Bool, true, false, not, ◌&&◌, ◌||◌, false≢true}
use mathlib.Core.List.{List, [], ◌∷◌}
use lib.Dec.{ltb, eqb}
use lib.ListN.{length}
use native.Mathlib.Omega.{arith}
use borrow.Author.Tests.{eqb-true, ne_eqb, lt-leb, le-ltb, ltb-true}
use Rattle.header.specs.declared.CommonPduConfig.{CommonPduConfig}
use Rattle.packet_info.specs.Routing.{among, acked, directive, directives, unknown, for_sender, not_supported}
use Rattle.bodies.specs.Eof.{condition}
use Rattle.bodies.specs.FileData.{malformed}
use Rattle.transfer.specs.Segment.{progress_passes}
use Rattle.transfer.specs.declared.TransferState.{TransferState}
use Rattle.inserting.specs.Insert.{segment_bytes}
use Rattle.inserting.specs.Metadata.{empty}
use Rattle.inserting.proofs.Laws.{malformed-none}

-- a directive for the sender is NAK, Finished or Keep Alive, or an ACK whose code is that of EOF
sender_by : (P : ℕ → ℕ → Type 0) (n a : ℕ) (b c d e f : Bool) → eqb n 8 ≡ b → eqb n 5 ≡ c → eqb n 12 ≡ d → eqb n 6 ≡ e → eqb a 4 ≡ f → ((b || (c || (d || false))) || (e && f)) ≡ true → P 8 a → P 5 a → P 12 a → (eqb a 4 ≡ true → P 6 4) → P n a
sender_by P n a true c d e f nb nc nd ne af t p q r s = rw (eqb-true n 8 nb) p
sender_by P n a false true d e f nb nc nd ne af t p q r s = rw (eqb-true n 5 nc) q
sender_by P n a false false true e f nb nc nd ne af t p q r s = rw (eqb-true n 12 nd) r
sender_by P n a false false false true true nb nc nd ne af t p q r s = rw (eqb-true n 6 ne, eqb-true a 4 af) (s af)
sender_by P n a false false false true false nb nc nd ne af t p q r s = absurd (false≢true t)
sender_by P n a false false false false f nb nc nd ne af t p q r s = absurd (false≢true t)

by_sender : (P : ℕ → ℕ → Type 0) (d : List ℕ) → for_sender d ≡ true → P 8 (acked d) → P 5 (acked d) → P 12 (acked d) → (eqb (acked d) 4 ≡ true → P 6 4) → P (directive d) (acked d)
by_sender P d e p q r s =
    sender_by P (directive d) (acked d) (eqb (directive d) 8) (eqb (directive d) 5) (eqb (directive d) 12) (eqb (directive d) 6) (eqb (acked d) 4) refl refl refl refl refl e p q r s

-- 7 and 8: a directive that is for the sender is known
pub sender_known : (d : List ℕ) → for_sender d ≡ true → unknown d ≡ false
sender_known [] e = absurd (false≢true e)
sender_known (x ∷ []) e =
    by_sender (λ n a. (not (among n directives) || (eqb n 6 && true)) ≡ false) (x ∷ []) e refl refl refl (λ z. absurd (false≢true z))
sender_known (x ∷ y ∷ rest) e =
    rw (ne_eqb (length (x ∷ y ∷ rest)) 0 (λ z. omega arith), le-ltb (length (x ∷ y ∷ rest)) 2 (omega arith))
    (by_sender (λ n a. (not (among n directives) || (eqb n 6 && not (among a (4 ∷ 5 ∷ [])))) ≡ false) (x ∷ y ∷ rest) e refl refl refl (λ z. refl))

-- 8 and 10: what is for the sender is not a Prompt and not an ACK of Finished
pub sender_supported : (d : List ℕ) → for_sender d ≡ true → not_supported d ≡ false
sender_supported d e = by_sender (λ n a. (eqb n 9 || (eqb n 6 && eqb a 5)) ≡ false) d e refl refl refl (λ z. refl)

-- 16 and 17: where both names are empty, 10 is told before
pub both_empty : (source dest : List ℕ) → empty source ≡ true → empty dest ≡ true → (empty source && empty dest) ≡ true
both_empty source dest e f = rw (e, f)

-- 14 and 20: malformed file data carry nothing, and progress, a 64-bit number, does not pass
pub nothing_passes : (t : TransferState) (c : CommonPduConfig) (m : Bool) (d : List ℕ) → t.file.progress < 2 ^ 64 → malformed d c.largefile m ≡ true → progress_passes t (length (segment_bytes c m d)) ≡ false
unfolding progress_passes
nothing_passes t c m d h e = lt-leb (2 ^ 64) (t.file.progress + length (segment_bytes c m d)) (omega (arith, h, malformed-none c m d e))

-- 14 and 10 of an EOF: under 2 bytes there is no condition
pub no_condition : (d : List ℕ) → ltb (length d) 2 ≡ true → not (eqb (condition d) 0) ≡ false
no_condition [] e = refl
no_condition (x ∷ []) e = refl
no_condition (x ∷ y ∷ rest) e = absurd (omega (arith, ltb-true (length (x ∷ y ∷ rest)) 2 e))
