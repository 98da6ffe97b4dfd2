-- What callers use of the configuration's definitions: what is found of an id and whether it is known, that a handler is one of the three,
-- and what holds of a configuration that is not broken.
use Prim.Native.Nat.{ℕ, zero, suc, ◌-◌, ◌≤◌}
use mathlib.Core.Path.{◌≡◌, refl, sym, ◌∙◌}
use mathlib.Core.Bool.{Bool, true, false, cond, not, ◌&&◌, ◌||◌, true≢false}
use mathlib.Core.List.{List, [], ◌∷◌}
use lib.Dec.{leb, ltb, eqb}
use lib.ListN.{get_or}
use borrow.Author.Tests.{eqb-true, ltb-false, not-false}
use Rattle.std.specs.Prelude.{Option, Some, None}
use Rattle.laws.proofs.Tests.{both_true, neither, by_cond}
use Rattle.codes.specs.Codes.{notice_of_cancellation, ignore_error, filestore_rejection, file_checksum_failure, file_size_error, check_limit_reached, unsupported_checksum_type}
use Rattle.config.specs.Config.{table_size, fits_width, is_handler, all_handlers, handler_of, default_handlers, entries_of, find_in, known_in, repeats_in, config_broken}
use Rattle.config.specs.declared.RemoteEntityConfig.{RemoteEntityConfig}
use Rattle.config.specs.declared.Config.{Config}

-- an answer agrees with whether the id is known: an entry with that id where it is, and no entry where it is not
abbrev pub Tells : Option RemoteEntityConfig → Bool → ℕ → Type 0
Tells (Some e) k id = (k ≡ true) × (e.id ≡ id)
Tells None k id = k ≡ false

-- at the first entry, by whether it has the id
tells_by : (b : Bool) (e : RemoteEntityConfig) (r : Option RemoteEntityConfig) (k : Bool) (id : ℕ) → eqb e.id id ≡ b → Tells r k id → Tells (cond b (Some e) r) (b || k) id
tells_by true e r k id p t = (refl, eqb-true e.id id p)
tells_by false e r k id p t = t

-- what is found tells whether the id is known
pub tells : (l : List RemoteEntityConfig) (id : ℕ) → Tells (find_in l id) (known_in l id) id
unfolding find_in known_in
tells [] id = refl
tells (e ∷ l) id = tells_by (eqb e.id id) e (find_in l id) (known_in l id) id refl (tells l id)

-- an entry is found: the id is known, and the entry has it
pub found_known : (l : List RemoteEntityConfig) (id : ℕ) (e : RemoteEntityConfig) → find_in l id ≡ Some e → (known_in l id ≡ true) × (e.id ≡ id)
found_known l id e f = rw f at (tells l id)

-- none is found: the id is not known
pub found-unknown : (l : List RemoteEntityConfig) (id : ℕ) → find_in l id ≡ None → known_in l id ≡ false
found-unknown l id f = rw f at (tells l id)

-- an id is known: an entry that has it is found
known_by : (r : Option RemoteEntityConfig) (k : Bool) (id : ℕ) → Tells r k id → k ≡ true → (e : RemoteEntityConfig) × ((r ≡ Some e) × (e.id ≡ id))
known_by (Some e) k id t p = (e, (refl, t.1))
known_by None k id t p = absurd (true≢false (sym p ∙ t))

pub known_found : (l : List RemoteEntityConfig) (id : ℕ) → known_in l id ≡ true → (e : RemoteEntityConfig) × ((find_in l id ≡ Some e) × (e.id ≡ id))
known_found l id = known_by (find_in l id) (known_in l id) id (tells l id)

-- an id is not known: none is found
unknown_by : (r : Option RemoteEntityConfig) (k : Bool) (id : ℕ) → Tells r k id → k ≡ false → r ≡ None
unknown_by (Some e) k id t p = absurd (true≢false (sym t.0 ∙ p))
unknown_by None k id t p = refl

pub unknown-found : (l : List RemoteEntityConfig) (id : ℕ) → known_in l id ≡ false → find_in l id ≡ None
unknown-found l id = unknown_by (find_in l id) (known_in l id) id (tells l id)

-- each element of a list of handlers is a handler, and so is what stands for one past the end
handler-at : (l : List ℕ) (i : ℕ) → all_handlers l ≡ true → is_handler (get_or l i 3) ≡ true
unfolding all_handlers is_handler
handler-at [] i p = refl
handler-at (h ∷ l) zero p = (both_true (is_handler h) (all_handlers l) p).0
handler-at (h ∷ l) (suc i) p = handler-at l i (both_true (is_handler h) (all_handlers l) p).1

-- the handler of any condition is one of the three
pub handler_good : (handlers : List ℕ) (c : ℕ) → all_handlers handlers ≡ true → is_handler (handler_of handlers c) ≡ true
unfolding handler_of is_handler
handler_good handlers c p =
    let Good : ℕ → Type 0 = λ h. is_handler h ≡ true in
    by_cond Good (leb 1 c && leb c 8) _ _ (handler-at handlers (c - 1) p)
    (by_cond Good (eqb c 10) _ _ (handler-at handlers 8 p) (by_cond Good (eqb c 11) _ _ (handler-at handlers 9 p) refl))

-- the default handlers are handlers
pub default_good : all_handlers default_handlers ≡ true
unfolding all_handlers is_handler default_handlers
default_good = refl

-- the default handlers of the faults that a receiver declares: cancel, and ignore for a wrong checksum and an unsupported checksum type
pub record Defaults : Type 0 where
  pub rejection : handler_of default_handlers filestore_rejection ≡ notice_of_cancellation
  pub checksum : handler_of default_handlers file_checksum_failure ≡ ignore_error
  pub size : handler_of default_handlers file_size_error ≡ notice_of_cancellation
  pub limit : handler_of default_handlers check_limit_reached ≡ notice_of_cancellation
  pub unsupported : handler_of default_handlers unsupported_checksum_type ≡ ignore_error

pub default_faults : Defaults
unfolding handler_of default_handlers
default_faults = record { rejection = refl; checksum = refl; size = refl; limit = refl; unsupported = refl }

-- a configuration that refusal 21 does not meet
pub record Sound (g : Config) : Type 0 where
  pub fits : fits_width g.local.width g.local.value ≡ true
  pub handled : all_handlers g.handlers ≡ true
  pub few : g.entries ≤ table_size
  pub single : repeats_in (entries_of g.table g.entries) ≡ false

pub sound : (g : Config) → config_broken g ≡ false → Sound g
unfolding config_broken
sound g e =
    let local = neither (not (fits_width g.local.width g.local.value)) _ e in
    let handlers = neither (not (all_handlers g.handlers)) _ local.1 in
    let table = neither (ltb table_size g.entries) _ handlers.1 in
    record { fits = not-false _ local.0; handled = not-false _ handlers.0; few = ltb-false table_size g.entries table.0; single = table.1 }
