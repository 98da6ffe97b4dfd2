-- `bodies::eof::read` meets its contract: past each test one condition of the order is known not to hold, and the refusal is that of the
-- conditions left.
use Prim.Native.Nat.{ℕ, ◌+◌}
use mathlib.Core.Path.{◌≡◌, ◌∙◌}
use mathlib.Core.Bool.{Bool}
use mathlib.Core.List.{List}
use lib.ListN.{drop}
use borrow.Author.Tests.{lt-ltb, le-ltb, eq-eqb, ne_eqb}
use Rattle.laws.specs.First.{first_of}
use Rattle.bodies.specs.Eof.{eof_length, eof_order, eof_refusal, fields_of, eof_of}
use Rattle.bodies.proofs.eof.read.Goals as goal

-- the first k conditions of the order do not hold
abbrev Past : ℕ → List ℕ → Bool → Type 0
Past k s large = eof_refusal s large ≡ first_of (drop k (eof_order s large))

-- two bytes are there
past-short : (c : goal.Then-field-ne-NO_ERROR) → Past 1 c.args.field.now c.args.large
unfolding eof_refusal eof_order
past-short c = rw (le-ltb _ _ c.if-end-lt2.false)

-- two bytes are there
past_short_2 : (c : goal.Then-end-bytes) → Past 1 c.args.field.now c.args.large
unfolding eof_refusal eof_order
past_short_2 c = rw (le-ltb _ _ c.if-end-lt2.false)

-- two bytes are there
past_short_3 : (c : goal.After-read-2) → Past 1 c.args.field.now c.args.large
unfolding eof_refusal eof_order
past_short_3 c = rw (le-ltb _ _ c.if-end-lt2.false)

-- the condition is 0
past-condition : (c : goal.Then-end-bytes) → Past 2 c.args.field.now c.args.large
unfolding eof_order
past-condition c = past_short_2 c ∙ rw (eq-eqb _ _ c.if-field-ne-NO_ERROR.false)

-- the condition is 0
past_condition_2 : (c : goal.After-read-2) → Past 2 c.args.field.now c.args.large
unfolding eof_order
past_condition_2 c = past_short_3 c ∙ rw (eq-eqb _ _ c.if-field-ne-NO_ERROR.false)

-- the length that the body is to have
long : (c : goal.Then-end-bytes) → 6 + c.bytes.result ≡ eof_length c.args.large
long c = rw (c.bytes.ensures.value, c.size_width-width.ensures)

-- the length that the body is to have
long_2 : (c : goal.After-read-2) → 6 + c.bytes.result ≡ eof_length c.args.large
long_2 c = rw (c.bytes.ensures.value, c.size_width-width.ensures)

pub returns-then-end-lt2 : goal.returns-then-end-lt2
unfolding eof_of eof_refusal eof_order
returns-then-end-lt2 c = rw (lt-ltb _ _ c.if-end-lt2.true)

pub returns-then-field-ne-NO_ERROR : goal.returns-then-field-ne-NO_ERROR
unfolding eof_of eof_order
returns-then-field-ne-NO_ERROR c = rw (past-short c, ne_eqb _ _ c.if-field-ne-NO_ERROR.true)

pub returns-then-end-bytes : goal.returns-then-end-bytes
unfolding eof_of eof_order
returns-then-end-bytes c = rw (past-condition c, ← long c, ne_eqb _ _ c.if-end-bytes.true)

pub returns : goal.returns
unfolding eof_of eof_order fields_of
returns c =
    rw (past_condition_2 c, ← long_2 c, eq-eqb _ _ c.if-end-bytes.false, c.read.ensures.value, c.read-2.ensures.value, c.size_width-width.ensures)
