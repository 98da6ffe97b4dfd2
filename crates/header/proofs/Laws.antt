-- What callers use of the header's definition: what an answer tells, and where the data field lies.
use Prim.Native.Nat.{ℕ, ◌≤◌}
use mathlib.Core.Path.{◌≡◌}
use mathlib.Core.Bool.{true}
use mathlib.Core.List.{List}
use native.Mathlib.Omega.{arith}
use lib.ListN.{length}
use lib.Dec.{T}
use borrow.Author.Tests.{ltb-false, not-false}
use Rattle.std.specs.Prelude.{Result, Ok, Err}
use Rattle.codes.specs.declared.Refusal.{Refusal}
use Rattle.codes.specs.Refusals.{number, answered, told}
use Rattle.codes.proofs.Refusals.{ok_tells, err_tells, told-unless}
use Rattle.laws.proofs.Order.{clear, numbered}
use Rattle.laws.proofs.Tests.{both_true}
use Rattle.laws.specs.Parts.{stretch}
use Rattle.numbers.specs.Numbers.{ok_width}
use Rattle.header.specs.Header.{header_order, header_refusal, header_of, fields_of, data_field, data_end, entity_width, sequence_width}
use Rattle.header.specs.declared.PduHeader.{PduHeader}

-- a header that no refusal meets
pub record Whole (s : List ℕ) : Type 0 where
  pub long : 4 ≤ length s
  pub entity : ok_width (entity_width s) ≡ true
  pub sequence : ok_width (sequence_width s) ≡ true
  pub ends : data_end s ≤ length s

pub whole : (s : List ℕ) → header_refusal s ≡ 0 → Whole s
unfolding header_refusal header_order
whole s e =
    let k = clear (header_order s) tt e in
    let widths = both_true (ok_width (entity_width s)) (ok_width (sequence_width s)) (not-false _ k.1.1.0) in
    record { long = ltb-false (length s) 4 k.0; entity = widths.0; sequence = widths.1; ends = ltb-false (length s) (data_end s) k.1.1.1.1.0 }

-- an answer taken apart: good fields are the definition's, and no refusal is told; else one is
module _ (s : List ℕ) (r : Result PduHeader Refusal) (e : answered r ≡ header_of s) where
  pub good_header : (h : PduHeader) → r ≡ Ok h → (header_refusal s ≡ 0) × (h ≡ fields_of s)
  unfolding header_of
  good_header h is = ok_tells _ _ h r e is

  pub refused_header : (m : Refusal) → r ≡ Err m → number m ≡ header_refusal s
  unfolding header_of
  refused_header m is = err_tells _ (fields_of s) r m e is

-- the part that good fields give is the data field
pub part_of : (s : List ℕ) {h : PduHeader} {part : List ℕ} → h ≡ fields_of s → part ≡ stretch s h.headerend h.dataend → part ≡ data_field s
unfolding fields_of data_field
part_of s e part = rw e at part

-- the number of the answer is the refusal that is told
pub header_number : (s : List ℕ) → told (header_of s) ≡ header_refusal s
unfolding header_of
header_number s = told-unless _ _

-- the data field lies within the PDU, behind the header
pub data_starts : (s : List ℕ) → (fields_of s).headerend ≤ (fields_of s).dataend
unfolding fields_of data_end
data_starts s = omega arith

pub data_ends : (s : List ℕ) → header_refusal s ≡ 0 → (fields_of s).dataend ≤ length s
unfolding fields_of
data_ends s e = (whole s e).ends

-- each refusal of the order has a number
pub header_numbered : (s : List ℕ) → T (numbered (header_order s))
unfolding header_order
header_numbered s = tt
