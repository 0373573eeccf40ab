use Rattle.std.proofs.Common.{inl, inr}
use Rattle.ipld_tree.specs.Cid.{cid_bytes}
use Rattle.dagcbor_decode.specs.Rows.{HoldsLinks}
use Rattle.ipld_links.specs.Rows.{HoldsFieldLinks}
use Rattle.ipld_links.proofs.Rows.{item_links, field_links, is_item_codec, next_as}
use Rattle.ipld_links.proofs.links.next_link.Goals as goal

pub next_field_link-requires : goal.next_field_link-requires
next_field_link-requires c = (c.requires.0, field_links c.args.codec c.args.row.now c.requires.0 c.if-codec-eq-DAG_PB.true c.requires.1)

pub next_link-requires : goal.next_link-requires
next_link-requires c = (c.requires.0, item_links c.args.codec c.args.row.now c.requires.0 c.if-codec-eq-DAG_PB.false c.requires.1)

pub returns-then-codec-eq-DAG_PB-clause-link : goal.returns-then-codec-eq-DAG_PB-clause-link
returns-then-codec-eq-DAG_PB-clause-link c links h =
    next_as c.args.codec HoldsFieldLinks (λ p. cid_bytes p.0) (λ p. p.1.now) c.next_field_link.result links (λ b ls k. inr (c.if-codec-eq-DAG_PB.true, k))
    (c.next_field_link.ensures.link links (field_links c.args.codec c.args.row.now links c.if-codec-eq-DAG_PB.true h))

pub returns-else-codec-eq-DAG_PB-clause-link : goal.returns-else-codec-eq-DAG_PB-clause-link
returns-else-codec-eq-DAG_PB-clause-link c links h =
    next_as c.args.codec HoldsLinks (λ p. cid_bytes p.0) (λ p. p.1.now) c.next_link.result links (λ b ls k. inl (is_item_codec c.args.codec c.args.row.now links c.if-codec-eq-DAG_PB.false h, k))
    (c.next_link.ensures.link links (item_links c.args.codec c.args.row.now links c.if-codec-eq-DAG_PB.false h))
