-- `bodies::metadata::name` meets its contract: the part that is handed back is the name, in each of the three cases: nothing, what is there,
-- or the whole; and a length byte is at most 255.
use Prim.Native.Nat.{ℕ, ◌+◌, ◌-◌, ◌<◌, ◌≤◌}
use mathlib.Core.Path.{◌≡◌, sym, ◌∙◌}
use mathlib.Core.List.{List}
use native.Mathlib.Omega.{arith}
use lib.ListN.{length, get_or, drop, length-drop, get_or-eq_default}
use lib.Seq.{drop-length, take_all}
use Rattle.laws.proofs.Lists.{rest_of}
use Rattle.bodies.specs.Metadata.{name_at}
use Rattle.bodies.proofs.metadata.Laws.{name_short}
use Rattle.bodies.proofs.metadata.name.Goals as goal

-- a part that is the name, which is short
told : (s : List ℕ) (at : ℕ) {r : List ℕ} → get_or s at 0 < 256 → r ≡ name_at s at → (r ≡ name_at s at) × (length r ≤ 255)
told s at h e = (e, rw e (name_short s at h))

-- past the end there is no name
none : (s : List ℕ) (at : ℕ) → length s ≤ at → drop (length s) s ≡ name_at s at
unfolding name_at
none s at h = rw (drop-length, get_or-eq_default s 0 {n = at} h)

-- a name that is not whole is what is there
rest : (s : List ℕ) (at : ℕ) → length s - (at + 1) < get_or s at 0 → drop (at + 1) s ≡ name_at s at
unfolding name_at
rest s at h = sym (take_all (get_or s at 0) (drop (at + 1) s) (simp length-drop (omega arith)))

pub returns-then-end-at : goal.returns-then-end-at
returns-then-end-at c =
    let both = let s = c.args.field.now in
    let at = c.args.at in
    told s at (rw (get_or-eq_default s 0 {n = at} (omega arith)) (omega arith)) (rest_of s (length s) ∙ none s at (omega arith)) in
    record { result_value = both.0; short = both.1 }

pub overflow_cast-size : goal.overflow_cast-size
overflow_cast-size c = omega (arith, c.type_inv.field c.args.at)

pub returns-then-end-start : goal.returns-then-end-start
returns-then-end-start c =
    let both = let s = c.args.field.now in
    let at = c.args.at in
    told s at (c.type_inv.field at).fits (rest_of s (at + 1) ∙ rest s at (omega arith)) in
    record { result_value = both.0; short = both.1 }

pub returns : goal.returns
unfolding name_at
returns c =
    let both = let s = c.args.field.now in
    let at = c.args.at in
    let n : at + 1 + get_or s at 0 - (at + 1) ≡ get_or s at 0 = omega arith in
    told s at (c.type_inv.field at).fits (rw n) in
    record { result_value = both.0; short = both.1 }
