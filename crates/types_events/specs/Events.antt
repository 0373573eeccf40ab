-- What a tree shows to the types of events.ipldsch, by ./dagcbor-types.
use Rattle.std.specs.Prelude.{ℕ, ℤ, ◌^◌, Bool, List, Option, Some, None, if◌then◌else◌, codes}
use Rattle.std.specs.Prelude.{false}
use Rattle.std.specs.Str.{bytes_eq}
use Rattle.serde_ipld_dagcbor.specs.Tree.{Tree}
use Rattle.serde_ipld_dagcbor.specs.Shapes.{Shape, leaf, owned_leaf, option_of, view_text}
use Rattle.serde_ipld_dagcbor.specs.Shapes.{view_bool, view_link, view_signed, takes_none}
use Rattle.serde_ipld_dagcbor.specs.Collections.{list_of, all_of}
use Rattle.serde_ipld_dagcbor.specs.Structs.{required_field, omissible_field, no_fields}
use Rattle.serde_ipld_dagcbor.specs.Structs.{struct_shape}
use Rattle.serde_ipld_dagcbor.specs.EnumViews.{EnumShape, enum_of}
use Rattle.types_events.specs.declared.events.Action.{Action}
use Rattle.types_events.specs.declared.events.Action.TheVariants as in_action

-- FrameHeader: a map of op and t
abbrev pub FrameHeaderView : Type 0
FrameHeaderView = ℤ × (Option (List ℕ) × Unit {0})

abbrev pub frame_header_shape : Shape Tree FrameHeaderView
frame_header_shape = struct_shape (
    required_field (codes "op") (leaf (view_signed (2 ^ 63))) (
    omissible_field (codes "t") (owned_leaf view_text) no_fields))

-- Action: a name
abbrev pub action_unit : List ℕ → Option Action
action_unit name =
    if bytes_eq name (codes "create") then Some in_action.Create
    else if bytes_eq name (codes "update") then Some in_action.Update
    else if bytes_eq name (codes "delete") then Some in_action.Delete
    else None

abbrev pub action_variants : EnumShape Action
action_variants = record {
  unit = action_unit;
  part = λ name t. None;
  need = λ name t. 0;
  wants_loan = false;
  memory = takes_none;
}

abbrev pub action_shape : Shape Tree Action
action_shape = enum_of action_variants

-- RepoOp: a map of action, path, cid and prev
abbrev pub RepoOpView : Type 0
RepoOpView = Action × (List ℕ × (Option (List ℕ) × (Option (Option (List ℕ)) × Unit {0})))

abbrev pub repo_op_shape : Shape Tree RepoOpView
repo_op_shape = struct_shape (
    required_field (codes "action") action_shape (
    required_field (codes "path") (owned_leaf view_text) (
    required_field (codes "cid") (option_of (leaf view_link)) (
    omissible_field (codes "prev") (option_of (leaf view_link)) no_fields))))

-- CommitEvent: a map of seq, rebase, tooBig, repo, commit, rev, since, ops, blobs, prevData and time
abbrev pub CommitEventView : Type 0
CommitEventView =
    ℤ × (
    Bool × (
    Bool × (
    List ℕ × (
    List ℕ × (
    List ℕ × (
    Option (List ℕ) × (
    List RepoOpView × (
    List (List ℕ) × (
    Option (Option (List ℕ)) × (
    List ℕ × Unit {0}))))))))))

abbrev pub commit_event_shape : Shape Tree CommitEventView
commit_event_shape = struct_shape (
    required_field (codes "seq") (leaf (view_signed (2 ^ 63))) (
    required_field (codes "rebase") (leaf view_bool) (
    required_field (codes "tooBig") (leaf view_bool) (
    required_field (codes "repo") (owned_leaf view_text) (
    required_field (codes "commit") (leaf view_link) (
    required_field (codes "rev") (owned_leaf view_text) (
    required_field (codes "since") (option_of (owned_leaf view_text)) (
    required_field (codes "ops") (list_of (all_of repo_op_shape)) (
    required_field (codes "blobs") (list_of (all_of (leaf view_link))) (
    omissible_field (codes "prevData") (option_of (leaf view_link)) (
    required_field (codes "time") (owned_leaf view_text) no_fields)))))))))))

-- SyncEvent: a map of seq, did, rev and time
abbrev pub SyncEventView : Type 0
SyncEventView = ℤ × (List ℕ × (List ℕ × (List ℕ × Unit {0})))

abbrev pub sync_event_shape : Shape Tree SyncEventView
sync_event_shape = struct_shape (
    required_field (codes "seq") (leaf (view_signed (2 ^ 63))) (
    required_field (codes "did") (owned_leaf view_text) (
    required_field (codes "rev") (owned_leaf view_text) (
    required_field (codes "time") (owned_leaf view_text) no_fields))))

-- IdentityEvent: a map of seq, did, time and handle
abbrev pub IdentityEventView : Type 0
IdentityEventView = ℤ × (List ℕ × (List ℕ × (Option (List ℕ) × Unit {0})))

abbrev pub identity_event_shape : Shape Tree IdentityEventView
identity_event_shape = struct_shape (
    required_field (codes "seq") (leaf (view_signed (2 ^ 63))) (
    required_field (codes "did") (owned_leaf view_text) (
    required_field (codes "time") (owned_leaf view_text) (
    omissible_field (codes "handle") (owned_leaf view_text) no_fields))))

-- AccountEvent: a map of seq, did, time, active and status
abbrev pub AccountEventView : Type 0
AccountEventView = ℤ × (List ℕ × (List ℕ × (Bool × (Option (List ℕ) × Unit {0}))))

abbrev pub account_event_shape : Shape Tree AccountEventView
account_event_shape = struct_shape (
    required_field (codes "seq") (leaf (view_signed (2 ^ 63))) (
    required_field (codes "did") (owned_leaf view_text) (
    required_field (codes "time") (owned_leaf view_text) (
    required_field (codes "active") (leaf view_bool) (
    omissible_field (codes "status") (owned_leaf view_text) no_fields)))))

-- InfoEvent: a map of name and message
abbrev pub InfoEventView : Type 0
InfoEventView = List ℕ × (Option (List ℕ) × Unit {0})

abbrev pub info_event_shape : Shape Tree InfoEventView
info_event_shape = struct_shape (
    required_field (codes "name") (owned_leaf view_text) (
    omissible_field (codes "message") (owned_leaf view_text) no_fields))

-- ErrorEvent: a map of error and message
abbrev pub ErrorEventView : Type 0
ErrorEventView = List ℕ × (Option (List ℕ) × Unit {0})

abbrev pub error_event_shape : Shape Tree ErrorEventView
error_event_shape = struct_shape (
    required_field (codes "error") (owned_leaf view_text) (
    omissible_field (codes "message") (owned_leaf view_text) no_fields))
