-- The events of a link, which no other value makes.
use Rattle.std.specs.Prelude.{◌≡◌, IsTrue, ℕ, List, [], ◌∷◌, Some, codes}
use Rattle.serde.specs.Event.{Event, Log, Logs, map_begins, map_ends, field_key, octets}
use Rattle.serde.specs.declared.name.Case.{Case}
use Rattle.serde.specs.declared.name.Case.TheVariants.{Kebab}
use Rattle.ipld_tree.specs.Tree.{link}
use Rattle.types_serde.specs.Building.{events_tree, is_link_name}

-- a map of one entry, known by the case of the entry's name
abbrev pub link_events : List ℕ → List Event
link_events cid =
    map_begins (Some 1) ∷ field_key (codes "/") Kebab ∷ octets cid ∷ map_ends ∷ []

abbrev pub WritesLink : List ℕ → Log → Log → Type 0
WritesLink cid old new = (a b c : Log) × Logs old a (map_begins (Some 1))
    × Logs a b (field_key (codes "/") Kebab) × Logs b c (octets cid) × Logs c new map_ends

-- Those events make the link.
abbrev pub LinksAreLinks : Type 0
LinksAreLinks = (cid : List ℕ) → events_tree (link_events cid) ≡ Some (link cid)

-- A field does not make a link if its name is sent as it is, as that of a renamed field is, or if
-- it has another name, as a field in Rust has.
abbrev pub FieldsAreNoLinks : Type 0
FieldsAreNoLinks = (name : List ℕ) (case : Case) → IsTrue (is_link_name name case)
    → (name ≡ codes "/") × (case ≡ Kebab)
