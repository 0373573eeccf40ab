-- The view of a struct with a field that may be absent.
use Rattle.std.specs.Prelude.{ℕ, ◌^◌, List, Option, codes}
use Rattle.serde_ipld_dagcbor.specs.Tree.{Tree}
use Rattle.serde_ipld_dagcbor.specs.Shapes.{view_text, view_unsigned, leaf, owned_leaf, Shape}
use Rattle.serde_ipld_dagcbor.specs.Structs.{required_field, optional_field, no_fields, struct_shape}

-- the name, the year of birth, and the profession, if there is one
abbrev pub PersonView : Type 0
PersonView = List ℕ × (ℕ × (Option (List ℕ) × Unit {0}))

abbrev pub person_shape : Shape Tree PersonView
person_shape = struct_shape (required_field (codes "name") (owned_leaf view_text)
    (required_field (codes "year_of_birth") (leaf (view_unsigned (2 ^ 16)))
    (optional_field (codes "profession") (owned_leaf view_text) no_fields)))
