-- The CAR file in the body of an event, as borrowed bytes.
use Rattle.std.specs.Prelude.{ℕ, List, codes}
use Rattle.serde_ipld_dagcbor.specs.Tree.{Tree}
use Rattle.serde_ipld_dagcbor.specs.Shapes.{Shape, lent_leaf, view_bytes}
use Rattle.serde_ipld_dagcbor.specs.Structs.{required_field, no_fields, struct_shape}

-- EventBlocks: a map with the field `blocks`
abbrev pub EventBlocksView : Type 0
EventBlocksView = List ℕ × Unit {0}

abbrev pub event_blocks_shape : Shape Tree EventBlocksView
event_blocks_shape = struct_shape (required_field (codes "blocks") (lent_leaf view_bytes) no_fields)
