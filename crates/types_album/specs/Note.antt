-- What a tree shows to the types of note.ipldsch, by ./dagcbor-types.
use Rattle.std.specs.Prelude.{ℕ, ◌^◌, List, codes}
use Rattle.serde_ipld_dagcbor.specs.Tree.{Tree}
use Rattle.serde_ipld_dagcbor.specs.Shapes.{Shape, leaf, owned_leaf, view_text, view_unsigned}
use Rattle.serde_ipld_dagcbor.specs.Structs.{required_field, no_other_fields, struct_shape}

-- Note: a map of year and text
abbrev pub NoteView : Type 0
NoteView = ℕ × (List ℕ × Unit {0})

abbrev pub note_shape : Shape Tree NoteView
note_shape = struct_shape (
    required_field (codes "year") (leaf (view_unsigned (2 ^ 16))) (
    required_field (codes "text") (owned_leaf view_text) no_other_fields))
