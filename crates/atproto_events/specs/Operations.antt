-- The operations of an event, as changes to records (AT Protocol specification, sync).
use Rattle.std.specs.Prelude.{List, Option, None, Some, string_bytes, ⊤}
use Rattle.std.specs.List.{AllByRecursion}
use Rattle.std.specs.Option.{option_flatten}
use Rattle.ipld_tree.specs.Cid.{CidParts}
use Rattle.atproto_mst.specs.Changes.{Changed}
use Rattle.types_events.specs.declared.events.Action.{Action}
use Rattle.types_events.specs.declared.events.Action.TheVariants.{Create, Update, Delete}
use Rattle.types_events.specs.declared.events.RepoOp.{RepoOp}
use Rattle.atproto_events.specs.declared.refusal.EventError.{EventError}
use Rattle.atproto_events.specs.declared.refusal.EventError.TheVariants.{OutOfMemory, OtherForm}

-- the record before, which may be absent or null
abbrev pub record_before : RepoOp → Option CidParts
record_before op = option_flatten op.prev

-- a created record has no record before, and a deleted one has no record after
abbrev pub FitsAction : Action → Option CidParts → Option CidParts → Type 0
FitsAction Create None (Some new) = ⊤
FitsAction Update (Some old) (Some new) = ⊤
FitsAction Delete (Some old) None = ⊤
FitsAction _ _ _ = ⊥

abbrev pub HasForm : RepoOp → Type 0
HasForm op = FitsAction op.action (record_before op) op.cid

-- the key, its record before, and its record after
abbrev pub change_of_op : RepoOp → Changed
change_of_op op = (string_bytes op.path, (record_before op, op.cid))

-- why there are no changes: an operation lacks its action's records; or out of memory
abbrev pub ChangesRefused : List RepoOp → EventError → Type 0
ChangesRefused ops OutOfMemory = ⊤
ChangesRefused ops OtherForm = ¬ AllByRecursion HasForm ops
ChangesRefused ops _ = ⊥
