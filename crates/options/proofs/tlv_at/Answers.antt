-- `options::tlv_at` meets its contract: what is left from the place on says whether that is the end and whether a type and a length
-- are there, and the last test whether the value is. A slice is short enough that the place behind an option that begins in it fits.
use Prim.Native.Nat.{ℕ, ◌+◌, ◌<◌, ◌≤◌}
use mathlib.Core.Path.{◌≡◌}
use mathlib.Core.Bool.{cond}
use mathlib.Core.List.{List}
use native.Mathlib.Omega.{arith}
use borrow.Author.Tests.{le-leb, lt-leb, eq-eqb, ne_eqb}
use lib.Dec.{leb}
use lib.ListN.{length}
use Rattle.options.specs.Options.{whole_option, bad_option, option_type, option_end, option_whole, tlv_at}
use Rattle.options.proofs.tlv_at.Goals as goal

-- a place that is not the end, with fewer than two bytes left
cut : (s : List ℕ) (at : ℕ) → (at ≡ length s → ⊥) → length s < at + 2 → bad_option at ≡ tlv_at s at
unfolding tlv_at option_whole
cut s at n h = rw (ne_eqb at (length s) n, lt-leb (at + 2) (length s) h)

-- two bytes or more are left: the option is whole where it ends within the field
there : (s : List ℕ) (at : ℕ) → at + 2 ≤ length s → tlv_at s at ≡ cond (leb (option_end s at) (length s)) (whole_option (option_type s at) (option_end s at)) (bad_option at)
unfolding tlv_at option_whole
there s at h = rw (ne_eqb at (length s) (λ e. omega arith), le-leb (at + 2) (length s) h)

pub returns-then-end-at : goal.returns-then-end-at
returns-then-end-at c = cut _ _ (λ e. omega arith) (omega arith)

pub returns-then-left-eq0 : goal.returns-then-left-eq0
unfolding tlv_at
returns-then-left-eq0 c = rw (eq-eqb c.args.at (length c.args.field.now) (omega arith))

pub returns-then-left-lt2 : goal.returns-then-left-lt2
returns-then-left-lt2 c = cut _ _ (λ e. omega arith) (omega arith)

pub overflow_cast-next : goal.overflow_cast-next
overflow_cast-next c = omega (arith, c.type_inv.field (c.args.at + 1))

pub overflow_add-next-3 : goal.overflow_add-next-3
overflow_add-next-3 c = omega (arith, c.well_formed, c.type_inv.field (c.args.at + 1))

pub returns-then-end-next : goal.returns-then-end-next
returns-then-end-next c = rw (there c.args.field.now c.args.at (omega arith), lt-leb _ _ c.if-end-next.true)

pub returns : goal.returns
returns c = rw (there c.args.field.now c.args.at (omega arith), le-leb _ _ c.if-end-next.false)
