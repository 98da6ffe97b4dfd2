-- What callers use of the routing's definition: what an answer tells, and which list of the order tells it.
use Prim.Native.Nat.{ℕ}
use mathlib.Core.Path.{◌≡◌, refl, sym, ◌∙◌}
use mathlib.Core.Bool.{Bool, true, false, cond, not, ◌||◌}
use mathlib.Core.List.{List, [], ◌∷◌, ◌++◌}
use native.Mathlib.Omega.{arith}
use lib.ListN.{length}
use lib.Dec.{T, ltb, eqb}
use borrow.Author.Tests.{eq-eqb, ne_eqb}
use Rattle.std.specs.Prelude.{Result, Ok, Err}
use Rattle.codes.specs.declared.Refusal.{Refusal}
use Rattle.codes.specs.Refusals.{number, answered, told}
use Rattle.codes.proofs.Refusals.{ok_tells, err_tells, told-unless}
use Rattle.laws.specs.First.{first_of}
use Rattle.laws.proofs.Order.{numbered, first_append, first_clear}
use Rattle.header.specs.Header.{header_order, header_refusal, data_field}
use Rattle.header.proofs.Laws.{header_numbered}
use Rattle.packet_info.specs.Routing.{is_metadata, acked, directive, is_file_data, foreign, directive_order, ack_refusal, kind_order, packet_order, packet_refusal, info_of, packet_of}
use Rattle.packet_info.specs.declared.Target.{Target}
use Rattle.packet_info.specs.declared.PacketInfo.{PacketInfo}

-- every ACK is refused: for want of its code, for its code, for the sender, or as not supported
ack_by : (short eof finished : Bool) → ◌≡◌ {A = ℕ} (cond (short || not (eof || (finished || false))) 7 (cond eof 8 (cond finished 10 0))) 0 → ⊥
ack_by true eof finished e = omega arith
ack_by false true finished e = omega arith
ack_by false false true e = omega arith
ack_by false false false e = omega arith

pub ack_told : (d : List ℕ) → ack_refusal d ≡ 0 → ⊥
unfolding ack_refusal
ack_told d e = ack_by (ltb (length d) 2) (eqb (acked d) 4) (eqb (acked d) 5) e

-- an ACK's refusal is that of its directive
pub ack_order : (d : List ℕ) → (length d ≡ 0 → ⊥) → directive d ≡ 6 → first_of (directive_order d) ≡ ack_refusal d
unfolding directive_order ack_refusal
ack_order d h k = rw (ne_eqb (length d) 0 h, k)

-- each refusal of a kind has a number
kind_by : (b : Bool) (d : List ℕ) → T (numbered (kind_order b d))
unfolding directive_order
kind_by true d = tt
kind_by false d = tt

-- the order, list by list: the header's refusals are told first, then those of the kind, then 9
module _ (s : List ℕ) (local : ℕ) where
  by_header : packet_refusal s local ≡ cond (eqb (header_refusal s) 0) (first_of (kind_order (is_file_data s) (data_field s) ++ ((9, foreign s local) ∷ []))) (header_refusal s)
  unfolding packet_refusal packet_order header_refusal
  by_header = first_append (header_order s) _ (header_numbered s)

  pub header_first : (header_refusal s ≡ 0 → ⊥) → packet_refusal s local ≡ header_refusal s
  header_first h = rw (by_header, ne_eqb (header_refusal s) 0 h)

  then_kind : header_refusal s ≡ 0 → packet_refusal s local ≡ cond (eqb (first_of (kind_order (is_file_data s) (data_field s))) 0) (cond (foreign s local) 9 0) (first_of (kind_order (is_file_data s) (data_field s)))
  then_kind h =
      by_header
      ∙ rw (eq-eqb (header_refusal s) 0 h) (first_append (kind_order (is_file_data s) (data_field s)) ((9, foreign s local) ∷ []) (kind_by (is_file_data s) (data_field s)))

  pub kind_second : header_refusal s ≡ 0 → (first_of (kind_order (is_file_data s) (data_field s)) ≡ 0 → ⊥) → packet_refusal s local ≡ first_of (kind_order (is_file_data s) (data_field s))
  kind_second h k = then_kind h ∙ rw (ne_eqb _ 0 k)

  pub foreign_last : header_refusal s ≡ 0 → first_of (kind_order (is_file_data s) (data_field s)) ≡ 0 → packet_refusal s local ≡ cond (foreign s local) 9 0
  foreign_last h k = then_kind h ∙ rw (eq-eqb _ 0 k)

  -- a PDU that is taken has a good header
  pub header_good : packet_refusal s local ≡ 0 → header_refusal s ≡ 0
  header_good e = first_clear (header_refusal s) (first_of (kind_order (is_file_data s) (data_field s) ++ ((9, foreign s local) ∷ []))) (sym by_header ∙ e)

-- an answer taken apart: a PDU that is taken has the definition's kind and header, and no refusal is told; else one is
module _ (s : List ℕ) (local : ℕ) (r : Result PacketInfo Refusal) (e : answered r ≡ packet_of s local) where
  pub good_packet : (i : PacketInfo) → r ≡ Ok i → (packet_refusal s local ≡ 0) × (i ≡ info_of s)
  unfolding packet_of
  good_packet i is = ok_tells _ _ i r e is

  pub refused_packet : (m : Refusal) → r ≡ Err m → number m ≡ packet_refusal s local
  unfolding packet_of
  refused_packet m is = err_tells _ (info_of s) r m e is

-- the number of the answer is the refusal that is told
pub packet_number : (s : List ℕ) (local : ℕ) → told (packet_of s local) ≡ packet_refusal s local
unfolding packet_of
packet_number s local = told-unless _ _

-- a test that one kind alone passes
pub metadata_only : (x : Target) → is_metadata x ≡ true → x ≡ Target.Metadata
metadata_only Target.FileData e = cc
metadata_only Target.Metadata e = refl
metadata_only Target.Eof e = cc
