-- A Metadata PDU whose body is whole: its names, and its refusals in 01's order.
use Rattle.std.specs.Prelude.{ℕ, Bool, not, ◌&&◌, ◌||◌, List, [], ◌∷◌, ◌++◌, eqb, length}
use Rattle.laws.specs.First.{first_of}
use Rattle.header.specs.declared.CommonPduConfig.{CommonPduConfig}
use Rattle.bodies.specs.Metadata.{name_at, fields_of}
use Rattle.bodies.specs.declared.metadata.MetadataPdu.{MetadataPdu}
use Rattle.utf8.specs.Utf8 as utf8
use Rattle.config.specs.Config.{entries_of, known_in}
use Rattle.config.specs.declared.Config.{Config}

-- by the header's conf c and the data field d: the body's fields and the two names
abbrev pub body_of : CommonPduConfig → List ℕ → MetadataPdu
body_of c d = fields_of d c.largefile

abbrev pub source_name : CommonPduConfig → List ℕ → List ℕ
source_name c d = name_at d (body_of c d).sourceat

abbrev pub dest_name : CommonPduConfig → List ℕ → List ℕ
dest_name c d = name_at d (body_of c d).destat

-- a name is empty; a name is not UTF-8
abbrev pub empty : List ℕ → Bool
empty l = eqb (length l) 0

abbrev pub not_utf8 : List ℕ → Bool
not_utf8 l = not (eqb (utf8.refusal_of (utf8.checked_of l)) 0)

-- the refusals of the names: 10 (both empty), 16, 17, 18
unfoldable pub names_order : List ℕ → List ℕ → List (ℕ × Bool)
names_order source dest =
    (10, empty source && empty dest)
    ∷ (16, empty source)
    ∷ (17, empty dest)
    ∷ (18, not_utf8 source || not_utf8 dest)
    ∷ []

-- whether the source has an entry
abbrev pub remote_known : Config → ℕ → Bool
remote_known g source = known_in (entries_of g.table g.entries) source

-- the refusals behind a whole body: 15, the names', 10 (option)
unfoldable pub rest_order : Config → ℕ → List ℕ → MetadataPdu → List (ℕ × Bool)
rest_order g source d m =
    (15, not (remote_known g source)) ∷ (names_order (name_at d m.sourceat) (name_at d m.destat) ++ ((10, m.message) ∷ []))

unfoldable pub rest_refusal : Config → ℕ → List ℕ → MetadataPdu → ℕ
rest_refusal g source d m = first_of (rest_order g source d m)
