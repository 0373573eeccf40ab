use Rattle.std.proofs.Common.{◌≡◌, ◌⊎◌, refl, sym, ◌∙◌, subst, inl, inr}
use Rattle.std.specs.Prelude.{MatchOption}
use Rattle.ipld_links.specs.Reaching.{stored_in}
use Rattle.atproto_mst.specs.Nodes.{NodeParts, IsNode, IsNodeAt, node_told}
use Rattle.atproto_mst.specs.Stops.{IsStoredNamed, NodeFault}
use Rattle.atproto_mst.specs.declared.error.MstError.TheVariants.{OutOfMemory}
use Rattle.atproto_mst.proofs.Comparing.{same_name}
use Rattle.atproto_mst.proofs.Naming.{other_name}
use Rattle.atproto_mst.proofs.Refusals.{handed_on}
use Rattle.atproto_mst.proofs.stored.node_at.Goals as goal

pub returns-then-ne : goal.returns-then-ne
returns-then-ne c = inr (
  refl,
  (
    c.in-Some.block.now,
    sym c.in-Some.ensures,
    λ named. other_name c.name_of_block.result c.args.name.now c.ne.result c.if-ne.true c.ne.ensures (c.name_of_block.ensures ∙ sym named),
  ),
)

pub returns-in_err-node : goal.returns-in_err-node
returns-in_err-node c =
    let same = same_name c.name_of_block.result c.args.name.now c.ne.result c.if-ne.false c.ne.ensures in
    handed_on (λ node. IsNodeAt (stored_in c.args.blocks.now) c.args.name.now (node_told node))
    (λ e. ((e ≡ OutOfMemory) × IsStoredNamed (stored_in c.args.blocks.now) c.args.name.now) ⊎ NodeFault (stored_in c.args.blocks.now) c.args.name.now e)
    c.from_residual.result OutOfMemory c.from_residual.ensures.1 (inl (refl, (c.in-Some.block.now, sym c.in-Some.ensures, sym same ∙ c.name_of_block.ensures)))

pub returns-in-Some-2 : goal.returns-in-Some-2
returns-in-Some-2 c = record {
  block = c.in-Some.block.now;
  is = sym c.in-Some.ensures;
  named = sym (same_name c.name_of_block.result c.args.name.now c.ne.result c.if-ne.false c.ne.ensures) ∙ c.name_of_block.ensures;
  node = subst (λ o. MatchOption o ((p : NodeParts) → ¬ IsNode c.in-Some.block.now p) (λ n. IsNode c.in-Some.block.now (node_told n))) c.in-Some-2.is c.in_ok-node.ensures;
}

pub returns-in-None : goal.returns-in-None
returns-in-None c = inr (
  refl,
  (
    c.in-Some.block.now,
    sym c.in-Some.ensures,
    sym (same_name c.name_of_block.result c.args.name.now c.ne.result c.if-ne.false c.ne.ensures) ∙ c.name_of_block.ensures,
    subst (λ o. MatchOption o ((p : NodeParts) → ¬ IsNode c.in-Some.block.now p) (λ n. IsNode c.in-Some.block.now (node_told n))) c.in-None.is c.in_ok-node.ensures,
  ),
)
