-- What callers use of the file data body's definition: what an answer tells, and where the segment lies.
use Rattle.laws.proofs.Picked.{through}
use Prim.Native.Nat.{ℕ, ◌-◌, ◌≤◌}
use mathlib.Core.Path.{◌≡◌}
use mathlib.Core.Bool.{Bool, true, false, cond}
use mathlib.Core.List.{List}
use lib.ListN.{length, length-drop}
use borrow.Author.Tests.{ltb-false}
use Rattle.std.specs.Prelude.{Result, Ok, Err}
use Rattle.codes.specs.declared.Refusal.{Refusal}
use Rattle.codes.specs.Refusals.{number, answered, told, Good, Refused}
use Rattle.codes.proofs.Refusals.{ok_but, err_but}
use Rattle.bodies.specs.FileData.{data_at, malformed, fields_of, file_data_of, segment_of}
use Rattle.bodies.specs.declared.file_data.FileDataPdu.{FileDataPdu}

-- an answer taken apart: good fields are the definition's, and the body is not malformed; else it is, and that is 14
module _ (s : List ℕ) (large metadata : Bool) (r : Result FileDataPdu Refusal) (e : answered r ≡ file_data_of s large metadata) where
  pub good_file_data : (f : FileDataPdu) → r ≡ Ok f → (malformed s large metadata ≡ false) × (f ≡ fields_of s large metadata)
  unfolding file_data_of
  good_file_data f is = ok_but _ 14 _ f r e is

  pub refused_file_data : (m : Refusal) → r ≡ Err m → (malformed s large metadata ≡ true) × (number m ≡ 14)
  unfolding file_data_of
  refused_file_data m is = err_but _ 14 (fields_of s large metadata) r m e is

-- the number of the answer
pub file_data_number : (s : List ℕ) (large metadata : Bool) → told (file_data_of s large metadata) ≡ cond (malformed s large metadata) 14 0
unfolding file_data_of
file_data_number s large metadata =
    through told (malformed s large metadata) (Refused 14) (Good (fields_of s large metadata))

-- the segment of a good body begins within it, or at its end
pub segment-within : (s : List ℕ) (large metadata : Bool) → malformed s large metadata ≡ false → (fields_of s large metadata).segmentat ≤ length s
unfolding malformed fields_of
segment-within s large metadata e = ltb-false (length s) (data_at s large metadata) e

-- the segment is what is left of the body
pub segment-length : (s : List ℕ) (at : ℕ) → length (segment_of s at) ≡ length s - at
unfolding segment_of
segment-length s at = length-drop at s
