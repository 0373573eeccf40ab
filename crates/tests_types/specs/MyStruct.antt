-- The view of a struct of a link and a truth value.
use Rattle.std.specs.Prelude.{ℕ, Bool, List, codes}
use Rattle.serde_ipld_dagcbor.specs.Tree.{Tree}
use Rattle.serde_ipld_dagcbor.specs.Shapes.{view_link, view_bool, leaf, Shape}
use Rattle.serde_ipld_dagcbor.specs.Structs.{required_field, no_fields, struct_shape}

-- the view's type
abbrev pub MyStructView : Type 0
MyStructView = List ℕ × (Bool × Unit {0})

-- the shape of the struct
abbrev pub my_struct_shape : Shape Tree MyStructView
my_struct_shape = struct_shape (required_field (codes "cid") (leaf view_link)
    (required_field (codes "data") (leaf view_bool) no_fields))
