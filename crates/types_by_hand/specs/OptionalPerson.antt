-- The view of a struct with two fields that may be absent.
use Rattle.std.specs.Prelude.{ℕ, ◌^◌, List, Option, codes}
use Rattle.serde_ipld_dagcbor.specs.Tree.{Tree}
use Rattle.serde_ipld_dagcbor.specs.Shapes.{view_text, view_unsigned, leaf, owned_leaf, Shape}
use Rattle.serde_ipld_dagcbor.specs.Structs.{required_field, optional_field, no_fields, struct_shape}

-- the name, and the year of birth and the profession, if they are there
abbrev pub OptionalPersonView : Type 0
OptionalPersonView = List ℕ × (Option ℕ × (Option (List ℕ) × Unit {0}))

abbrev pub optional_person_shape : Shape Tree OptionalPersonView
optional_person_shape = struct_shape (required_field (codes "name") (owned_leaf view_text)
    (optional_field (codes "year_of_birth") (leaf (view_unsigned (2 ^ 16)))
    (optional_field (codes "profession") (owned_leaf view_text) no_fields)))
