use Rattle.std.proofs.Common.{map, refl, subst, sym, ◌∙◌, inl, inr}
use Rattle.std.specs.List.{AllByRecursion}
use Rattle.ipld_tree.specs.Cid.{AreCidParts}
use Rattle.atproto_mst.specs.Nodes.{IsCidIfAny, row_told}
use Rattle.atproto_mst.proofs.Comparing.{same_name}
use Rattle.atproto_mst.proofs.Naming.{other_name}
use Rattle.atproto_mst.proofs.Shown.{not_shown, node_read}
use Rattle.atproto_events.proofs.open.find_node.Goals as goal

pub returns-in-Ok-clause-found : goal.returns-in-Ok-clause-found
returns-in-Ok-clause-found c = record {
  block = c.in-Some.block.now;
  is = sym c.in-Some.ensures;
  named = sym (same_name c.name_of_block.result c.args.name.now c.ne.result c.if-ne.false c.ne.ensures) ∙ c.name_of_block.ensures;
  node = record {
    spelled = node_read c.in-Some.block.now c.in-Ok.node c.in-Ok.ensures.value;
    left = c.has_cid.ensures;
    rows = subst (λ rs. AllByRecursion (λ r. AreCidParts r.value × IsCidIfAny r.after) (map row_told rs)) c.deref.ensures.value c.have_cids.ensures;
  };
}

pub returns-then-ne-clause-refused : goal.returns-then-ne-clause-refused
returns-then-ne-clause-refused c = (
  refl,
  (
    c.in-Some.block.now,
    sym c.in-Some.ensures,
    λ named. other_name c.name_of_block.result c.args.name.now c.ne.result c.if-ne.true c.ne.ensures (c.name_of_block.ensures ∙ sym named),
  ),
)

pub returns-in-OutOfMemory-clause-refused : goal.returns-in-OutOfMemory-clause-refused
returns-in-OutOfMemory-clause-refused c =
    (c.in-Some.block.now, sym c.in-Some.ensures, sym (same_name c.name_of_block.result c.args.name.now c.ne.result c.if-ne.false c.ne.ensures) ∙ c.name_of_block.ensures)

pub returns-in_default-error : goal.returns-in_default-error
returns-in_default-error c = record {
  found = tt;
  refused = (
    refl,
    (
      c.in-Some.block.now,
      sym c.in-Some.ensures,
      sym (same_name c.name_of_block.result c.args.name.now c.ne.result c.if-ne.false c.ne.ensures) ∙ c.name_of_block.ensures,
      elim c.in-Err.ensures.refused [
        | inl memory ↦ absurd (c.in_default-error.not-OutOfMemory memory)
        | inr none ↦ not_shown c.in-Some.block.now none
      ],
    ),
  );
}
