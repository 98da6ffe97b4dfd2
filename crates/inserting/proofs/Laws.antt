-- Which list of the order tells a refusal: before the body, in the body, behind it.
use Prim.Native.Nat.{ℕ}
use mathlib.Core.Path.{◌≡◌, refl}
use mathlib.Core.Bool.{Bool, true, cond, not}
use mathlib.Core.List.{List, [], ◌∷◌, ◌++◌}
use native.Mathlib.Omega.{arith}
use lib.Dec.{T}
use lib.ListN.{length, length-drop}
use borrow.Author.Tests.{ltb-true}
use Rattle.laws.specs.First.{first_of}
use Rattle.laws.proofs.Order.{numbered, first_left, first_right}
use Rattle.header.specs.declared.CommonPduConfig.{CommonPduConfig}
use Rattle.bodies.specs.FileData as body
use Rattle.bodies.specs.Eof as eof
use Rattle.bodies.specs.Metadata.{name_at}
use Rattle.bodies.specs.declared.metadata.MetadataPdu.{MetadataPdu}
use Rattle.config.specs.declared.Config.{Config}
use Rattle.transfer.specs.Transfer.{is_idle, is_receiving}
use Rattle.transfer.specs.declared.TransferState.{TransferState}
use Rattle.transfer.specs.declared.TransactionStep.{TransactionStep}
use Rattle.transfer.specs.declared.TransactionStep.TheVariants.{Idle, Receiving, Waiting, Completion}
use Rattle.inserting.specs.Insert.{takes_data, segment_bytes, place_order, body_order, body_refusal, eof_call_order, eof_call_refusal}
use Rattle.inserting.specs.Metadata.{names_order, remote_known, rest_order, rest_refusal}

place_numbered : (takes : Bool) (t : TransferState) (c : CommonPduConfig) → T (numbered (place_order takes t c))
unfolding place_order
place_numbered takes t c = tt

-- file data: 12 and 13 before 14
module _ (t : TransferState) (c : CommonPduConfig) (m : Bool) (d : List ℕ) where
  pub place_first : (first_of (place_order (takes_data t.step) t c) ≡ 0 → ⊥) → body_refusal t c m d ≡ first_of (place_order (takes_data t.step) t c)
  unfolding body_refusal body_order
  place_first h = first_left (place_order (takes_data t.step) t c) _ (place_numbered (takes_data t.step) t c) h

  pub body_next : first_of (place_order (takes_data t.step) t c) ≡ 0 → body_refusal t c m d ≡ cond (body.malformed d c.largefile m) 14 0
  unfolding body_refusal body_order
  body_next h = first_right (place_order (takes_data t.step) t c) _ (place_numbered (takes_data t.step) t c) h

-- EOF: 12 and 13 before the body's
module _ (t : TransferState) (c : CommonPduConfig) (d : List ℕ) where
  pub eof_place_first : (first_of (place_order (is_receiving t.step) t c) ≡ 0 → ⊥) → eof_call_refusal t c d ≡ first_of (place_order (is_receiving t.step) t c)
  unfolding eof_call_refusal eof_call_order
  eof_place_first h = first_left (place_order (is_receiving t.step) t c) _ (place_numbered (is_receiving t.step) t c) h

  pub eof_body_next : first_of (place_order (is_receiving t.step) t c) ≡ 0 → eof_call_refusal t c d ≡ eof.eof_refusal d c.largefile
  unfolding eof_call_refusal eof_call_order eof.eof_refusal
  eof_body_next h = first_right (place_order (is_receiving t.step) t c) _ (place_numbered (is_receiving t.step) t c) h

-- a known source: the names and the option are left
pub names_next : (g : Config) (source : ℕ) (d : List ℕ) (m : MetadataPdu) → remote_known g source ≡ true → rest_refusal g source d m ≡ first_of (names_order (name_at d m.sourceat) (name_at d m.destat) ++ ((10, m.message) ∷ []))
unfolding rest_refusal rest_order
names_next g source d m e = rw e

-- each refusal of the names has a number
names_numbered : (a b : List ℕ) → T (numbered (names_order a b))
unfolding names_order
names_numbered a b = tt

-- the names tell, or only the option is left
pub names_first : (a b : List ℕ) (l : List (ℕ × Bool)) → (first_of (names_order a b) ≡ 0 → ⊥) → first_of (names_order a b ++ l) ≡ first_of (names_order a b)
names_first a b l h = first_left (names_order a b) l (names_numbered a b) h

pub option_next : (a b : List ℕ) (l : List (ℕ × Bool)) → first_of (names_order a b) ≡ 0 → first_of (names_order a b ++ l) ≡ first_of l
option_next a b l h = first_right (names_order a b) l (names_numbered a b) h

-- a step that takes file data is one of a transfer that runs
pub takes-busy : (x : TransactionStep) → takes_data x ≡ true → not (is_idle x) ≡ true
takes-busy Idle e = e
takes-busy Receiving e = refl
takes-busy Waiting e = refl
takes-busy Completion e = refl

-- file data whose body is malformed carry nothing
pub malformed-none : (c : CommonPduConfig) (m : Bool) (d : List ℕ) → body.malformed d c.largefile m ≡ true → length (segment_bytes c m d) ≡ 0
unfolding body.malformed body.fields_of body.segment_of
malformed-none c m d e = rw length-drop (omega (arith, ltb-true (length d) _ e))
