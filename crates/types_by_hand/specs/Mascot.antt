-- The view of a struct of texts and a number.
use Rattle.std.specs.Prelude.{ℕ, ◌^◌, List, codes}
use Rattle.serde_ipld_dagcbor.specs.Tree.{Tree}
use Rattle.serde_ipld_dagcbor.specs.Shapes.{view_text, view_unsigned, leaf, owned_leaf, Shape}
use Rattle.serde_ipld_dagcbor.specs.Structs.{required_field, no_fields, struct_shape}

-- the name, the species, and the year of birth
abbrev pub MascotView : Type 0
MascotView = List ℕ × (List ℕ × (ℕ × Unit {0}))

abbrev pub mascot_shape : Shape Tree MascotView
mascot_shape = struct_shape (required_field (codes "name") (owned_leaf view_text)
    (required_field (codes "species") (owned_leaf view_text)
    (required_field (codes "year_of_birth") (leaf (view_unsigned (2 ^ 32))) no_fields)))
