-- What callers use of the EOF body's definition: what an answer tells, and how long a good body is.
use Prim.Native.Nat.{ℕ}
use mathlib.Core.Path.{◌≡◌}
use mathlib.Core.Bool.{Bool}
use mathlib.Core.List.{List}
use lib.Dec.{T}
use lib.ListN.{length}
use borrow.Author.Tests.{eqb-true, not-false}
use Rattle.std.specs.Prelude.{Result, Ok, Err}
use Rattle.codes.specs.declared.Refusal.{Refusal}
use Rattle.codes.specs.Refusals.{number, answered, told}
use Rattle.codes.proofs.Refusals.{ok_tells, err_tells, told-unless}
use Rattle.laws.proofs.Order.{clear, numbered}
use Rattle.bodies.specs.Eof.{condition, eof_length, eof_order, eof_refusal, fields_of, eof_of}
use Rattle.bodies.specs.declared.eof.EofPdu.{EofPdu}

-- an answer taken apart: good fields are the definition's, and no refusal is told; else one is
module _ (s : List ℕ) (large : Bool) (r : Result EofPdu Refusal) (e : answered r ≡ eof_of s large) where
  pub good_eof : (f : EofPdu) → r ≡ Ok f → (eof_refusal s large ≡ 0) × (f ≡ fields_of s large)
  unfolding eof_of
  good_eof f is = ok_tells _ _ f r e is

  pub refused-eof : (m : Refusal) → r ≡ Err m → number m ≡ eof_refusal s large
  unfolding eof_of
  refused-eof m is = err_tells _ (fields_of s large) r m e is

-- the number of the answer is the refusal that is told
pub eof_number : (s : List ℕ) (large : Bool) → told (eof_of s large) ≡ eof_refusal s large
unfolding eof_of
eof_number s large = told-unless _ _

-- each refusal of the order has a number
pub eof-numbered : (s : List ℕ) (large : Bool) → T (numbered (eof_order s large))
unfolding eof_order
eof-numbered s large = tt

-- a body that no refusal meets: its condition is 0, and its length is that of its fields
pub whole-eof : (s : List ℕ) (large : Bool) → eof_refusal s large ≡ 0 → (condition s ≡ 0) × (length s ≡ eof_length large)
unfolding eof_refusal eof_order
whole-eof s large e =
    let k = clear (eof_order s large) tt e in
    (eqb-true (condition s) 0 (not-false _ k.1.0), eqb-true (length s) (eof_length large) (not-false _ k.1.1.0))
