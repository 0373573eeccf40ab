-- The view of a struct that holds an enum of two unit variants.
use Rattle.std.specs.Prelude.{codes}
use Rattle.serde_ipld_dagcbor.specs.Tree.{Tree}
use Rattle.serde_ipld_dagcbor.specs.Shapes.{Shape}
use Rattle.serde_ipld_dagcbor.specs.Structs.{required_field, no_fields, struct_shape}
use Rattle.tests_types.specs.Letter.{Letter, letter_shape}

-- the shape of the struct
abbrev pub enum_struct_shape : Shape Tree (Letter × Unit {0})
enum_struct_shape = struct_shape (required_field (codes "e") letter_shape no_fields)
