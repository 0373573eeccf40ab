-- What a tree shows to the types of repository.ipldsch, by ./dagcbor-types.
use Rattle.std.specs.Prelude.{ℕ, ◌^◌, List, Option, codes}
use Rattle.serde_ipld_dagcbor.specs.Tree.{Tree}
use Rattle.serde_ipld_dagcbor.specs.Shapes.{Shape, leaf, owned_leaf, option_of, view_text}
use Rattle.serde_ipld_dagcbor.specs.Shapes.{view_bytes, view_link, view_unsigned}
use Rattle.serde_ipld_dagcbor.specs.Collections.{list_of, all_of}
use Rattle.serde_ipld_dagcbor.specs.Structs.{required_field, no_other_fields, struct_shape}

-- Commit: a map of did, version, data, rev, prev and sig
abbrev pub CommitView : Type 0
CommitView = List ℕ × (ℕ × (List ℕ × (List ℕ × (Option (List ℕ) × (List ℕ × Unit {0})))))

abbrev pub commit_shape : Shape Tree CommitView
commit_shape = struct_shape (
    required_field (codes "did") (owned_leaf view_text) (
    required_field (codes "version") (leaf (view_unsigned (2 ^ 8))) (
    required_field (codes "data") (leaf view_link) (
    required_field (codes "rev") (owned_leaf view_text) (
    required_field (codes "prev") (option_of (leaf view_link)) (
    required_field (codes "sig") (owned_leaf view_bytes) no_other_fields))))))

-- UnsignedCommit: a map of did, version, data, rev and prev
abbrev pub UnsignedCommitView : Type 0
UnsignedCommitView = List ℕ × (ℕ × (List ℕ × (List ℕ × (Option (List ℕ) × Unit {0}))))

abbrev pub unsigned_commit_shape : Shape Tree UnsignedCommitView
unsigned_commit_shape = struct_shape (
    required_field (codes "did") (owned_leaf view_text) (
    required_field (codes "version") (leaf (view_unsigned (2 ^ 8))) (
    required_field (codes "data") (leaf view_link) (
    required_field (codes "rev") (owned_leaf view_text) (
    required_field (codes "prev") (option_of (leaf view_link)) no_other_fields)))))

-- Entry: a map of p, k, v and t
abbrev pub EntryView : Type 0
EntryView = ℕ × (List ℕ × (List ℕ × (Option (List ℕ) × Unit {0})))

abbrev pub entry_shape : Shape Tree EntryView
entry_shape = struct_shape (
    required_field (codes "p") (leaf (view_unsigned (2 ^ 64))) (
    required_field (codes "k") (owned_leaf view_bytes) (
    required_field (codes "v") (leaf view_link) (
    required_field (codes "t") (option_of (leaf view_link)) no_other_fields))))

-- Node: a map of l and e
abbrev pub NodeView : Type 0
NodeView = Option (List ℕ) × (List EntryView × Unit {0})

abbrev pub node_shape : Shape Tree NodeView
node_shape = struct_shape (
    required_field (codes "l") (option_of (leaf view_link)) (
    required_field (codes "e") (list_of (all_of entry_shape)) no_other_fields))
