use Rattle.std.proofs.Common.{arith, sym, ◌∙◌, subst}
use Rattle.ipld_links.specs.Within.{AddsLinks}
use Rattle.ipld_links.proofs.Within.{plain_added, none_added, inner_added, none_adding, one_adding, all_adding, digest_inside, not_block_of}
use Rattle.ipld_links.proofs.cid_set.CidSet.+links.Goals as goal

pub add_link-returns-then-hash_code-ne-IDENTITY : goal.add_link-returns-then-hash_code-ne-IDENTITY
add_link-returns-then-hash_code-ne-IDENTITY t c = plain_added c.add_unheld.result c.args.link.now c.args.held.now c.args.self.now c.add_unheld.new.self (λ i. c.if-hash_code-ne-IDENTITY.true (c.hash_code.ensures ∙ i)) c.add_unheld.ensures

pub add_link-returns-then-not-is_block_of : goal.add_link-returns-then-not-is_block_of
add_link-returns-then-not-is_block_of t c =
    none_added c.args.link.now c.args.held.now c.args.self.now c.version-version.ensures.valid (sym c.hash_code.ensures ∙ c.if-hash_code-ne-IDENTITY.false)
    (not_block_of c.args.link.now c.codec.result c.digest.result.now c.is_block_of.result c.codec.ensures c.digest.ensures c.if-not-is_block_of.true c.is_block_of.ensures)

pub add_link-returns : goal.add_link-returns
add_link-returns t c =
    inner_added c.add_links.result c.args.link.now c.args.held.now c.args.self.now c.add_links.new.self c.version-version.ensures.valid (sym c.hash_code.ensures ∙ c.if-hash_code-ne-IDENTITY.false)
    (subst (λ n. AddsLinks n c.args.link.now.digest c.args.held.now c.args.self.now c.add_links.result c.add_links.new.self) c.codec-2.ensures (subst (λ b. AddsLinks c.codec-2.result b c.args.held.now c.args.self.now c.add_links.result c.add_links.new.self) c.digest-2.ensures c.add_links.ensures))

pub add_links-next_link-requires : goal.add_links-next_link-requires
add_links-next_link-requires t c = let so_far = c.loop-found.invariant.1 in (so_far.more, so_far.left)

pub add_links-add_link-requires : goal.add_links-add_link-requires
add_links-add_link-requires t c = (omega (arith, c.decreases, digest_inside c.args.block.now c.loop-found.rest.now c.in-Some.found.1.now c.in-Some.found.0 c.loop-found.invariant.1.fits c.in-Some.ensures.shorter), tt)

pub add_links-loop-found-init : goal.add_links-loop-found-init
add_links-loop-found-init t c = none_adding c.args.codec c.args.block.now c.args.held.now c.args.self.now c.requires

pub add_links-loop-found-preserved : goal.add_links-loop-found-preserved
add_links-loop-found-preserved t c = one_adding c.args.codec c.args.block.now c.loop-found.rest.now c.in-Some.found.1.now c.in-Some.found.0 c.args.held.now c.args.self.now c.loop-found.self c.add_link.new.self c.loop-found.invariant (c.in-Some.ensures.link c.loop-found.invariant.1.more c.loop-found.invariant.1.left) c.in-Some.ensures.shorter c.in_ok-add_link.ensures

pub add_links-returns : goal.add_links-returns
add_links-returns t c = all_adding c.args.codec c.args.block.now c.loop-found.rest.now c.args.held.now c.args.self.now c.loop-found.self c.loop-found.invariant (c.in_default.ensures.link c.loop-found.invariant.1.more c.loop-found.invariant.1.left)
