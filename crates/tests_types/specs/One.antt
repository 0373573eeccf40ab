-- The view of a struct of one field.
use Rattle.std.specs.Prelude.{ℕ, ◌^◌, Option, codes}
use Rattle.serde_ipld_dagcbor.specs.Tree.{Tree}
use Rattle.serde_ipld_dagcbor.specs.Shapes.{view_unsigned, leaf, Shape}
use Rattle.serde_ipld_dagcbor.specs.Structs.{StructShape, required_field, no_fields, struct_shape}

-- the row of its one field
abbrev pub one_fields : StructShape (Option ℕ × Unit {0}) (ℕ × Unit {0})
one_fields = required_field (codes "a") (leaf (view_unsigned (2 ^ 8))) no_fields

-- the shape of the struct
abbrev pub one_shape : Shape Tree (ℕ × Unit {0})
one_shape = struct_shape one_fields
