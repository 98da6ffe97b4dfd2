-- The options at the end of a Metadata body: each a type, a length and as many bytes of value, one behind the other to the end.
-- Type 2 is Message to User; others are stepped over.
use Rattle.std.specs.Prelude.{ℕ, zero, suc, ◌+◌, Bool, false, cond, ◌||◌, List, length, get_or, leb, eqb, Option, Some, None, Result, Ok, Err}
use Rattle.codes.specs.declared.Refusal.TheVariants.{Malformed}
use Rattle.codes.specs.Refusals.{number}
use Rattle.options.specs.declared.Tlv.{Tlv}
use Rattle.options.specs.declared.BadOption.{BadOption}
use Rattle.options.specs.declared.Options.{Options}

-- the type of the option at a place, and the place behind its value
abbrev pub option_type : List ℕ → ℕ → ℕ
option_type s at = get_or s at 0

abbrev pub option_end : List ℕ → ℕ → ℕ
option_end s at = at + 2 + get_or s (at + 1) 0

-- whether the option at a place is whole: its type and length are there, and its value
unfoldable pub option_whole : List ℕ → ℕ → Bool
option_whole s at = cond (leb (at + 2) (length s)) (leb (option_end s at) (length s)) false

-- what stands at a place: a whole option, the end, or an option that is not whole
abbrev pub Step : Type 0
Step = Result (Option Tlv) BadOption

abbrev pub whole_option : ℕ → ℕ → Step
whole_option kind next = Ok (Some (record { kind = kind; next = next }))

abbrev pub no_option : Step
no_option = Ok None

abbrev pub bad_option : {A : Type 0} → ℕ → Result A BadOption
bad_option at = Err (record { at = at })

-- one step
unfoldable pub tlv_at : List ℕ → ℕ → Step
tlv_at s at =
    cond (eqb at (length s)) no_option
    (cond (option_whole s at) (whole_option (option_type s at) (option_end s at)) (bad_option at))

-- what a walk finds: the place where the options end and whether a Message to User is among them, or the place of the first option that
-- is not whole
abbrev pub Walk : Type 0
Walk = Result Options BadOption

abbrev pub walked_to : ℕ → Bool → Walk
walked_to at message = Ok (record { end = at; message = message })

-- the walk from a place on, where `message` says whether a Message to User came before. The first number bounds the steps:
-- proofs/Walk.antt shows that it never runs out
unfoldable pub walk_from : ℕ → List ℕ → ℕ → Bool → Walk
walk_from zero s at message = bad_option at
walk_from (suc steps) s at message =
    cond (eqb at (length s)) (walked_to at message)
    (cond (option_whole s at) (walk_from steps s (option_end s at) (message || eqb (option_type s at) 2)) (bad_option at))

-- the options from a place of a body to its end: no option is shorter than two bytes, so the body's length bounds the steps
unfoldable pub options_of : List ℕ → ℕ → Walk
options_of s at = walk_from (suc (length s)) s at false

-- document 01's number for each answer, and its values
abbrev pub refusal_of : Walk → ℕ
refusal_of (Ok o) = 0
refusal_of (Err b) = number Malformed

abbrev pub has_message : Walk → Bool
has_message (Ok o) = o.message
has_message (Err b) = false
