-- What callers use of the Metadata body's definition: what an answer tells, that both names of a good body are whole, and how long a name is.
use Rattle.laws.proofs.Picked.{through}
use Prim.Native.Nat.{ℕ, ◌<◌, ◌≤◌}
use mathlib.Core.Path.{◌≡◌}
use mathlib.Core.Bool.{Bool, true, false, cond, ◌&&◌}
use mathlib.Core.List.{List}
use native.Mathlib.Omega.{arith}
use lib.Dec.{ltb, leb, eqb}
use lib.ListN.{length, get_or, length-take, length-drop}
use borrow.Author.Tests.{ltb-true, leb-true, eqb-true, not-false}
use Rattle.laws.proofs.Tests.{both_true}
use Rattle.std.specs.Prelude.{Result, Ok, Err}
use Rattle.codes.specs.declared.Refusal.{Refusal}
use Rattle.codes.specs.Refusals.{number, answered, told, Good, Refused}
use Rattle.codes.proofs.Refusals.{ok_but, err_but}
use Rattle.options.specs.Options.{options_of, refusal_of}
use Rattle.bodies.specs.Metadata.{name_at, name_end, name_whole, source_at, dest_at, options_at, malformed, fields_of, metadata_of}
use Rattle.bodies.specs.declared.metadata.MetadataPdu.{MetadataPdu}

-- an answer taken apart: good fields are the definition's, and the body is not malformed; else it is, and that is 14
module _ (s : List ℕ) (large : Bool) (r : Result MetadataPdu Refusal) (e : answered r ≡ metadata_of s large) where
  pub good_metadata : (m : MetadataPdu) → r ≡ Ok m → (malformed s large ≡ false) × (m ≡ fields_of s large)
  unfolding metadata_of
  good_metadata m is = ok_but _ 14 _ m r e is

  pub refused-metadata : (m : Refusal) → r ≡ Err m → (malformed s large ≡ true) × (number m ≡ 14)
  unfolding metadata_of
  refused-metadata m is = err_but _ 14 (fields_of s large) r m e is

-- the number of the answer
pub metadata_number : (s : List ℕ) (large : Bool) → told (metadata_of s large) ≡ cond (malformed s large) 14 0
unfolding metadata_of
metadata_number s large = through told (malformed s large) (Refused 14) (Good (fields_of s large))

-- a body that is not malformed: both names are whole, and so is each option
pub record Whole (s : List ℕ) (large : Bool) : Type 0 where
  pub source : name_whole s (source_at large) ≡ true
  pub dest : name_whole s (dest_at s large) ≡ true
  pub options : refusal_of (options_of s (options_at s large)) ≡ 0

pub whole : (s : List ℕ) (large : Bool) → malformed s large ≡ false → Whole s large
unfolding malformed
whole s large e =
    let options = refusal_of (options_of s (options_at s large)) in
    let first = both_true (name_whole s (source_at large)) (name_whole s (dest_at s large) && eqb options 0) (not-false _ e) in
    let second = both_true (name_whole s (dest_at s large)) (eqb options 0) first.1 in
    record { source = first.0; dest = second.0; options = eqb-true options 0 second.1 }

-- a whole name begins and ends within the body
pub name_within : (s : List ℕ) (at : ℕ) → name_whole s at ≡ true → (at < length s) × (name_end s at ≤ length s)
unfolding name_whole
name_within s at e =
    let p = both_true (ltb at (length s)) (leb (name_end s at) (length s)) e in
    (ltb-true at (length s) p.0, leb-true (name_end s at) (length s) p.1)

-- a whole name has as many bytes as its length byte says
pub name_length : (s : List ℕ) (at : ℕ) → name_whole s at ≡ true → length (name_at s at) ≡ get_or s at 0
unfolding name_at
name_length s at e = let within = name_within s at e in rw (length-take, length-drop) (omega arith)

-- and no name has more, which is at most 255
pub name_short : (s : List ℕ) (at : ℕ) → get_or s at 0 < 256 → length (name_at s at) ≤ 255
unfolding name_at
name_short s at h = rw length-take (omega arith)
