-- The view of a tree as a record.
use Rattle.std.specs.Prelude.{ℕ, ◌^◌, List, codes}
use Rattle.ipld_tree.specs.Tree.{Tree}
use Rattle.dagcbor_read.specs.Shapes.{view_link, view_text, view_unsigned, leaf, owned_leaf, Shape}
use Rattle.dagcbor_read.specs.Collections.{list_of, all_of}
use Rattle.dagcbor_read.specs.Structs.{required_field, no_fields, struct_shape}

-- the link's bytes, the name, the number, and the tags
abbrev pub RecordView : Type 0
RecordView = List ℕ × (List ℕ × (ℕ × (List ℕ × Unit {0})))

-- a link, a name, a number and tags, all of which are required
abbrev pub record_shape : Shape Tree RecordView
record_shape = struct_shape (required_field (codes "link") (leaf view_link)
    (required_field (codes "name") (owned_leaf view_text)
    (required_field (codes "seq") (leaf (view_unsigned (2 ^ 32)))
    (required_field (codes "tags") (list_of (all_of (leaf (view_unsigned (2 ^ 16))))) no_fields))))
