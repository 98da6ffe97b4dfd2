-- The receiver's configuration: local entity, fault handlers, indications, table of remote entities; and when refusal 21 meets it.
use Rattle.std.specs.Prelude.{ℕ, ◌-◌, ◌^◌, ◌==◌, Bool, false, cond, not, ◌&&◌, ◌||◌, List, [], ◌∷◌, Option, find, take, get_or, leb, ltb, eqb}
use Rattle.std.specs.List.{list_any, list_all}
use Rattle.codes.specs.Codes.{positive_ack_limit_reached, inactivity_detected, check_limit_reached, unsupported_checksum_type, notice_of_cancellation, ignore_error, abandon_transaction}
use Rattle.numbers.specs.Numbers.{bytes_of}
use Rattle.numbers.specs.declared.Width.{Width}
use Rattle.config.specs.declared.RemoteEntityConfig.{RemoteEntityConfig}
use Rattle.config.specs.declared.Config.{Config}

-- the most entries that a remote table has
abbrev pub table_size : ℕ
table_size = 8

-- whether a value fits a width
unfoldable pub fits_width : Width → ℕ → Bool
fits_width w v = ltb v (256 ^ bytes_of w)

-- handlers: cancel, ignore, abandon
unfoldable pub is_handler : ℕ → Bool
is_handler h = eqb h notice_of_cancellation || (eqb h ignore_error || eqb h abandon_transaction)

-- whether each number of a list is a handler
unfoldable pub all_handlers : List ℕ → Bool
all_handlers = list_all is_handler

-- conditions with a handler: 1 to 8, 10, 11, in that order in the list of ten; others count as ignore
unfoldable pub handler_of : List ℕ → ℕ → ℕ
handler_of handlers c =
    cond (leb positive_ack_limit_reached c && leb c inactivity_detected) (get_or handlers (c - 1) ignore_error)
    (cond (eqb c check_limit_reached) (get_or handlers 8 ignore_error) (cond (eqb c unsupported_checksum_type) (get_or handlers 9 ignore_error) ignore_error))

-- the handlers by default: cancel, and ignore for a checksum failure (5) and an unsupported checksum type (11)
unfoldable pub default_handlers : List ℕ
default_handlers =
    let cancel = notice_of_cancellation in
    let ignore = ignore_error in
    cancel ∷ cancel ∷ cancel ∷ cancel ∷ ignore ∷ cancel ∷ cancel ∷ cancel ∷ cancel ∷ ignore ∷ []

-- the entries in use
abbrev pub entries_of : List RemoteEntityConfig → ℕ → List RemoteEntityConfig
entries_of table n = take n table

-- the entry with an id: the first that has it
unfoldable pub find_in : List RemoteEntityConfig → ℕ → Option RemoteEntityConfig
find_in l id = find (λ e. e.id == id) l

-- whether an entry has the id
unfoldable pub known_in : List RemoteEntityConfig → ℕ → Bool
known_in l id = list_any (λ e. e.id == id) l

-- whether an id stands twice
unfoldable pub repeats_in : List RemoteEntityConfig → Bool
repeats_in [] = false
repeats_in (e ∷ rest) = known_in rest e.id || repeats_in rest

-- 21, of a configuration: the local id is above its width, a handler is none of the three, the table has more than 8 entries, or
-- an id stands twice in it
unfoldable pub config_broken : Config → Bool
config_broken g =
    not (fits_width g.local.width g.local.value)
    || (not (all_handlers g.handlers)
    || (ltb table_size g.entries || repeats_in (entries_of g.table g.entries)))
