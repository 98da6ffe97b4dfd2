-- `header::first_refusal` meets its contract: past each test one condition of the order is known not to hold, and the refusal is that
-- of the conditions left; at each return the first of these holds.
use Prim.Native.Nat.{ℕ, ◌/◌, ◌%◌, ◌≤◌}
use mathlib.Core.Bool.{Bool, true}
use mathlib.Core.Path.{◌≡◌, ◌∙◌, sym}
use mathlib.Core.List.{List}
use lib.ListN.{drop, length}
use borrow.Author.Tests.{lt-ltb, le-ltb, eq-eqb, ne_eqb}
use Rattle.numbers.specs.Numbers.{ok_width}
use Rattle.laws.specs.First.{first_of}
use Rattle.header.specs.Header.{header_refusal, header_order, version, first_byte, entity_width, sequence_width}
use Rattle.header.proofs.first_refusal.Goals as goal

-- the first k conditions of the order do not hold
abbrev Past : ℕ → List ℕ → Type 0
Past k s = header_refusal s ≡ first_of (drop k (header_order s))

-- four bytes are there
past_3 : (s : List ℕ) → 4 ≤ length s → Past 1 s
unfolding header_refusal header_order
past_3 s four = rw (le-ltb _ _ four)

-- the version is 001
past_4 : (s : List ℕ) → 4 ≤ length s → version s ≡ 1 → Past 2 s
unfolding header_order
past_4 s four one = past_3 s four ∙ rw (eq-eqb _ _ one)

-- both widths are among the four
past_5 : (s : List ℕ) → 4 ≤ length s → version s ≡ 1 → ok_width (entity_width s) ≡ true → ok_width (sequence_width s) ≡ true → Past 3 s
unfolding header_order
past_5 s four one entity sequence = past_4 s four one ∙ rw (entity, sequence)

-- the CRC flag is not set
past_6 : (s : List ℕ) → 4 ≤ length s → version s ≡ 1 → ok_width (entity_width s) ≡ true → ok_width (sequence_width s) ≡ true → (first_byte s / 2 % 2 ≡ 1 → ⊥) → Past 4 s
unfolding header_order
past_6 s four one entity sequence clear = past_5 s four one entity sequence ∙ rw (ne_eqb _ _ clear)

pub returns-then-s-lt4 : goal.returns-then-s-lt4
unfolding header_refusal header_order
returns-then-s-lt4 c = rw (lt-ltb _ _ c.if-s-lt4.true)

pub returns-then-first-ne1 : goal.returns-then-first-ne1
unfolding header_order
returns-then-first-ne1 c = rw (past_3 _ c.if-s-lt4.false, ne_eqb _ _ c.if-first-ne1.true)

pub returns-then-not-ok_width : goal.returns-then-not-ok_width
unfolding header_order
returns-then-not-ok_width c =
    rw
    (past_4 _ c.if-s-lt4.false c.if-first-ne1.false, ← c.ok_width.ensures, c.if-not-ok_width.true)

-- a width that was found to be one of the four
found : {r w : Bool} → r ≡ w → r ≡ true → w ≡ true
found e h = sym e ∙ h

pub returns-then-not-ok_width-2 : goal.returns-then-not-ok_width-2
unfolding header_order
returns-then-not-ok_width-2 c =
    let entity = found c.ok_width.ensures c.if-not-ok_width.false in
    rw
    (past_4 _ c.if-s-lt4.false c.if-first-ne1.false, entity, ← c.ok_width-2.ensures, c.if-not-ok_width-2.true)

pub returns-then-first-eq1 : goal.returns-then-first-eq1
unfolding header_order
returns-then-first-eq1 c =
    let entity = found c.ok_width.ensures c.if-not-ok_width.false in
    let sequence = found c.ok_width-2.ensures c.if-not-ok_width-2.false in
    rw (past_5 _ c.if-s-lt4.false c.if-first-ne1.false entity sequence, eq-eqb _ _ c.if-first-eq1.true)

pub returns-then-s-data_end : goal.returns-then-s-data_end
unfolding header_order
returns-then-s-data_end c =
    let entity = found c.ok_width.ensures c.if-not-ok_width.false in
    let sequence = found c.ok_width-2.ensures c.if-not-ok_width-2.false in
    rw
    (past_6 _ c.if-s-lt4.false c.if-first-ne1.false entity sequence c.if-first-eq1.false, ← c.data_end.ensures, lt-ltb _ _ c.if-s-data_end.true)

pub returns : goal.returns
unfolding header_order
returns c =
    let entity = found c.ok_width.ensures c.if-not-ok_width.false in
    let sequence = found c.ok_width-2.ensures c.if-not-ok_width-2.false in
    rw
    (past_6 _ c.if-s-lt4.false c.if-first-ne1.false entity sequence c.if-first-eq1.false, ← c.data_end.ensures, le-ltb _ _ c.if-s-data_end.false)
