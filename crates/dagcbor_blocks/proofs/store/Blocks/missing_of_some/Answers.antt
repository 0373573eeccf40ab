use Rattle.std.proofs.Common.{sym, ◌∙◌, subst, true≢false}
use Rattle.serde_ipld_dagcbor.specs.Walks.{forms}
use Rattle.ipld_links.specs.Blocks.{HasLinks, IsBlockOf}
use Rattle.dagcbor_blocks.proofs.Unique.{on_ok}
use Rattle.dagcbor_blocks.proofs.Missing.{AddedSoFar}
use Rattle.dagcbor_blocks.proofs.Listing.{so_far_next, so_far_skip, all_listed}
use Rattle.dagcbor_blocks.proofs.store.Blocks.missing_of_some.Goals as goal

pub links_of_block-requires : goal.links_of_block-requires
links_of_block-requires c =
    subst (λ n. IsBlockOf n c.deref-in-loop-name.result.now) (c.codec.ensures ∙ sym c.codec-in-loop-name.ensures) (subst (IsBlockOf c.codec.result) (c.deref.ensures.value ∙ sym c.deref-in-loop-name.ensures.value) (c.is_block_of.ensures.0 c.if-not-is_block_of.false))

pub loop-name-preserved : goal.loop-name-preserved
loop-name-preserved c =
    so_far_next c.cid_equality.ensures c.args.self.now.blocks c.loop-name.name-iterator c.next.new.self (c.in-Some.name.now, c.in-Some.block.now) c.in-Ok.links.items c.loop-name.missing c.add_missing.new.missing c.in-Some.ensures.steps c.loop-name.invariant
    (subst (λ n. HasLinks n c.in-Some.block.now.items (forms c.in-Ok.links.items)) c.codec-in-loop-name.ensures (subst (λ b. HasLinks c.codec-in-loop-name.result b (forms c.in-Ok.links.items)) c.deref-in-loop-name.ensures.value c.in-Ok.ensures))
    (subst (λ ls. AddedSoFar c.args.self.now.blocks ls c.loop-name.missing c.add_missing.new.missing) c.deref-in-loop-name-2.ensures.value (on_ok c.add_missing.result _ c.if-is_err.ensures.value c.add_missing.ensures))

pub returns-in-Ok-into_vec : goal.returns-in-Ok-into_vec
returns-in-Ok-into_vec c = (
  c.in-Ok-into_vec.ensures.sorted,
  all_listed c.cid_equality.ensures c.args.self.now.blocks c.args.self.now.sound c.loop-name.missing c.loop-name.name-iterator c.in-Ok-into_vec.links.items c.in-None.ensures.steps.0 c.loop-name.invariant c.in-Ok-into_vec.ensures.all,
)

pub loop-name-preserved-then-not-is_block_of : goal.loop-name-preserved-then-not-is_block_of
loop-name-preserved-then-not-is_block_of c =
    so_far_skip c.args.self.now.blocks c.loop-name.name-iterator c.next.new.self (c.in-Some.name.now, c.in-Some.block.now) c.loop-name.missing c.in-Some.ensures.steps c.loop-name.invariant
    (λ h. true≢false (sym (c.is_block_of.ensures.1 (subst (λ n. IsBlockOf n c.deref.result.now) (sym c.codec.ensures) (subst (IsBlockOf c.in-Some.name.now.codec) (sym c.deref.ensures.value) h))) ∙ c.if-not-is_block_of.true))
