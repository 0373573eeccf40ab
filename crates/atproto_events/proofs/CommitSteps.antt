-- Why an event is verified, and why it is not.
use Rattle.std.proofs.Common.{◌≡◌, ℕ, List, take, map}
use Rattle.std.specs.List.{AllByRecursion}
use Rattle.dagcbor_items.specs.Walks.{forms}
use Rattle.atproto_mst.specs.Changes.{changes}
use Rattle.atproto_mst.specs.declared.diffs.Change.{Change}
use Rattle.types_events.specs.declared.events.RepoOp.{RepoOp}
use Rattle.atproto_events.specs.Operations.{HasForm, change_of_op}

-- ---- operations

-- the first i operations have their form, and are these changes
pub record Taking (ops : List RepoOp) (i : ℕ) (done : List Change) : Type 0 where
  pub forms : AllByRecursion HasForm (take i ops)
  pub same : changes done ≡ map change_of_op (take i ops)
