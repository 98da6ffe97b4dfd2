-- `bodies::metadata::read` meets its contract: the answers on the names and on the options are those at the places of the definition, and
-- each that is taken apart decides one part of what a body that is not malformed is.
use Prim.Native.Nat.{ℕ, ◌+◌}
use mathlib.Core.Path.{◌≡◌, sym, ◌∙◌}
use mathlib.Core.Bool.{Bool, true, false, not}
use mathlib.Core.List.{List}
use native.Mathlib.Omega.{arith}
use lib.Dec.{eqb}
use Rattle.std.specs.Prelude.{Option, Some, None}
use Rattle.numbers.specs.Numbers.{bytes_of}
use Rattle.numbers.specs.declared.Width.{Width}
use Rattle.options.specs.Options.{Walk, options_of, refusal_of}
use Rattle.bodies.specs.Size.{size_width}
use Rattle.bodies.specs.Metadata.{name_whole, source_at, dest_at, options_at, malformed, fields_of, metadata_of}
use Rattle.bodies.specs.Names.{name_read}
use Rattle.bodies.proofs.metadata.Names.{name_whole_lem, name_bad}
use Rattle.bodies.proofs.metadata.Laws.{name_within}
use Rattle.bodies.proofs.metadata.read.Goals as goal

-- the source name stands behind the size
source : {n : ℕ} {w : Width} (large : Bool) → n ≡ bytes_of w → w ≡ size_width large → 2 + n ≡ source_at large
source large n w = rw (n, w)

module _ (s : List ℕ) (large : Bool) where
  -- the source name is whole, and the destination name stands behind it; or it is not whole
  first : {at next : ℕ} {o : Option ℕ} → at ≡ source_at large → o ≡ name_read s at → o ≡ Some next → (name_whole s (source_at large) ≡ true) × (next ≡ dest_at s large)
  first place e is = rw place at (name_whole_lem s _ e _ is)

  first_bad : {at : ℕ} {o : Option ℕ} → at ≡ source_at large → o ≡ name_read s at → o ≡ None → name_whole s (source_at large) ≡ false
  first_bad place e is = rw place at (name_bad s _ e is)

  -- the destination name is whole, and the options stand behind it; or it is not whole
  second : {at next : ℕ} {o : Option ℕ} → at ≡ dest_at s large → o ≡ name_read s at → o ≡ Some next → (name_whole s (dest_at s large) ≡ true) × (next ≡ options_at s large)
  second place e is = rw place at (name_whole_lem s _ e _ is)

  second_bad : {at : ℕ} {o : Option ℕ} → at ≡ dest_at s large → o ≡ name_read s at → o ≡ None → name_whole s (dest_at s large) ≡ false
  second_bad place e is = rw place at (name_bad s _ e is)

  -- what is told of the options decides past both names
  third : {at : ℕ} {r t : Walk} → at ≡ options_at s large → r ≡ options_of s at → r ≡ t → options_of s (options_at s large) ≡ t
  third place e is = rw place at (sym e ∙ is)

  past_names : {t : Walk} → name_whole s (source_at large) ≡ true → name_whole s (dest_at s large) ≡ true → options_of s (options_at s large) ≡ t → malformed s large ≡ not (eqb (refusal_of t) 0)
  unfolding malformed
  past_names a b e = rw (a, b, e)

pub returns-in_default : goal.returns-in_default
unfolding metadata_of malformed
returns-in_default c =
    rw
    (first_bad _ _ (source c.args.large c.bytes-source_at.ensures.value c.size_width-width.ensures) c.name_end.ensures c.in_default.is)

pub returns-in_default-name_end : goal.returns-in_default-name_end
unfolding metadata_of malformed
returns-in_default-name_end c =
    let a = c.args in
    let one = first a.field.now a.large (source a.large c.bytes-source_at.ensures.value c.size_width-width.ensures) c.name_end.ensures c.in-Some.is in
    rw (one.0, second_bad a.field.now a.large one.1 c.name_end-2.ensures c.in_default-name_end.is)

pub returns-in_default-read : goal.returns-in_default-read
unfolding metadata_of
returns-in_default-read c =
    let a = c.args in
    let one = first a.field.now a.large (source a.large c.bytes-source_at.ensures.value c.size_width-width.ensures) c.name_end.ensures c.in-Some.is in
    let two = second a.field.now a.large one.1 c.name_end-2.ensures c.in-Some-name_end.is in
    let told = third a.field.now a.large two.1 c.read.ensures c.in_default-read.is in
    rw (past_names a.field.now a.large one.0 two.0 told)

pub bounds-field-1 : goal.bounds-field-1
bounds-field-1 c =
    let a = c.args in
    omega
    (arith, name_within _ _ (first a.field.now a.large (source a.large c.bytes-source_at.ensures.value c.size_width-width.ensures) c.name_end.ensures c.in-Some.is).0)

pub returns : goal.returns
unfolding metadata_of fields_of
returns c =
    let a = c.args in
    let place = source a.large c.bytes-source_at.ensures.value c.size_width-width.ensures in
    let one = first a.field.now a.large place c.name_end.ensures c.in-Some.is in
    let two = second a.field.now a.large one.1 c.name_end-2.ensures c.in-Some-name_end.is in
    let told = third a.field.now a.large two.1 c.read.ensures c.in-Ok.is in
    rw
    (past_names a.field.now a.large one.0 two.0 told, told, c.read-2.ensures.value, place, one.1, two.1, c.size_width-width.ensures)
