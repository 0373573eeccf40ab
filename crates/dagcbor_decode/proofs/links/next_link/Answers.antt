use Rattle.std.proofs.Common.{◌∷◌, ap, ◌∙◌, subst, arith}
use Rattle.ipld_tree.specs.Cid.{cid_bytes}
use Rattle.dagcbor_decode.specs.Rows.{HoldsLinks}
use Rattle.dagcbor_decode.proofs.Rows.{token_shorter}
use Rattle.dagcbor_decode.proofs.Rows.{token_passed, link_passed, one_cid, none_left, cid_shorter, after_shorter}
use Rattle.dagcbor_decode.proofs.links.next_link.Goals as goal

pub split_link-requires : goal.split_link-requires
split_link-requires c =
    let k = link_passed c.loop-major.rest.now c.in-Some.more.now c.in-Some.major c.in-Some.argument c.requires.0 c.if-major-eq6.true c.in-Some.ensures (c.loop-major.invariant.0 c.requires.0 c.requires.1) in
    (k.0, k.1, k.3)

pub returns-then-major-eq6-clause-link : goal.returns-then-major-eq6-clause-link
returns-then-major-eq6-clause-link c links holds =
    let k = link_passed c.loop-major.rest.now c.in-Some.more.now c.in-Some.major c.in-Some.argument links c.if-major-eq6.true c.in-Some.ensures (c.loop-major.invariant.0 links holds) in
    let same = one_cid c.in-Some.more.now k.0 (cid_bytes c.split_link.result.0) k.1 c.split_link.result.1.now k.3 c.split_link.ensures in
    (k.2, k.4 ∙ ap (λ x. x ∷ k.2) same.0, subst (λ r. HoldsLinks r k.2) same.1 k.5)

pub returns-then-major-eq6-clause-shorter : goal.returns-then-major-eq6-clause-shorter
returns-then-major-eq6-clause-shorter c =
    let some = c.loop-major.invariant.1 in
    omega (arith, cid_shorter c.in-Some.more.now (cid_bytes c.split_link.result.0) c.split_link.result.1.now c.split_link.ensures, after_shorter c.loop-major.rest.now c.in-Some.more.now c.in-Some.major c.in-Some.argument c.in-Some.ensures)

pub after_string-rest-requires : goal.after_string-rest-requires
after_string-rest-requires c = (token_passed c.loop-major.rest.now c.in-Some.more.now c.in-Some.major c.in-Some.argument c.requires.0 c.if-major-eq6.false c.in-Some.ensures (c.loop-major.invariant.0 c.requires.0 c.requires.1)).0

pub loop-major-smaller : goal.loop-major-smaller
loop-major-smaller c = token_shorter c.loop-major.rest.now c.in-Some.more.now _ c.in-Some.major c.in-Some.argument c.in-Some.ensures c.after_string-rest.ensures

pub loop-major-preserved : goal.loop-major-preserved
loop-major-preserved c =
    let some = c.loop-major.invariant.1 in (
      λ links holds. rw c.after_string-rest.ensures (token_passed c.loop-major.rest.now c.in-Some.more.now c.in-Some.major c.in-Some.argument links c.if-major-eq6.false c.in-Some.ensures (c.loop-major.invariant.0 links holds)).1,
      omega (arith, token_shorter c.loop-major.rest.now c.in-Some.more.now _ c.in-Some.major c.in-Some.argument c.in-Some.ensures c.after_string-rest.ensures),
    )

pub returns-clause-link : goal.returns-clause-link
returns-clause-link c links holds = none_left c.loop-major.rest.now links c.in_default.ensures (c.loop-major.invariant.0 links holds)
