use Rattle.std.proofs.Common.{map, subst, inl, inr}
use Rattle.std.specs.List.{AllByRecursion}
use Rattle.ipld_tree.specs.Cid.{AreCidParts}
use Rattle.atproto_mst.specs.Nodes.{IsCidIfAny, row_told}
use Rattle.atproto_mst.proofs.Shown.{not_shown, node_read}
use Rattle.atproto_mst.proofs.rows.read_node.Goals as goal

pub returns-in-Ok : goal.returns-in-Ok
returns-in-Ok c = record {
  spelled = node_read c.args.block.now c.in-Ok.node c.in-Ok.ensures.value;
  left = c.has_cid.ensures;
  rows = subst (λ rs. AllByRecursion (λ r. AreCidParts r.value × IsCidIfAny r.after) (map row_told rs)) c.deref.ensures.value c.have_cids.ensures;
}

pub returns-in_default : goal.returns-in_default
returns-in_default c = elim c.in-Err.ensures.refused [
  | inl memory ↦ absurd (c.in_default.not-OutOfMemory memory)
  | inr none ↦ not_shown c.args.block.now none
]
