-- The view of an enum whose variant is named by a field.
use Rattle.std.specs.Prelude.{ℕ, List, Option, Some, None, if◌then◌else◌, codes, bytes_eq}
use Rattle.serde_ipld_dagcbor.specs.Tree.{Tree}
use Rattle.serde_ipld_dagcbor.specs.Shapes.{view_link, view_text, leaf, owned_leaf, Shape}
use Rattle.serde_ipld_dagcbor.specs.Structs.{required_field, no_fields, struct_shape}
use Rattle.serde_ipld_dagcbor.specs.Collections.{finishing}

-- the tag and the link
abbrev pub tagged_fields : Shape Tree (List ℕ × (List ℕ × Unit {0}))
tagged_fields = struct_shape (required_field (codes "type") (owned_leaf view_text)
    (required_field (codes "cid") (leaf view_link) no_fields))

-- the link, if the tag is that of the one variant
abbrev pub finish_tagged : List ℕ × (List ℕ × Unit {0}) → Option (List ℕ)
finish_tagged p = if bytes_eq p.0 (codes "MyCid") then Some p.1.0 else None

-- the shape of the enum
abbrev pub tagged_shape : Shape Tree (List ℕ)
tagged_shape = finishing finish_tagged tagged_fields
