use Rattle.std.proofs.lemmas.Result.{err_from_is_err_and}
use Rattle.ipld_tree.specs.Tree.{links_of}
use Rattle.dagcbor_decode.specs.Decode.{decode_first}
use Rattle.dagcbor_decode.proofs.FirstLinks.{refusal_linked, links_answer, item_links, first_front, first_need}
use Rattle.dagcbor_decode.proofs.links.links_from_slice.Goals as goal

pub returns-in_err-item : goal.returns-in_err-item
returns-in_err-item c =
    let p = err_from_is_err_and c.from_residual.result c.from_residual.ensures.1 in
    rw (p.1, p.2) record { decoded = refusal_linked (decode_first c.args.bytes.now) _ c.in_err-item.ensures; links = tt }

pub links_of_items-requires : goal.links_of_items-requires
links_of_items-requires c = (links_of c.in_ok-item.ensures.tree, item_links c.in_ok-item.ensures)

pub returns-in-Ok : goal.returns-in-Ok
returns-in-Ok c =
    let f = c.in_ok-item.ensures in
    let links = c.in-Ok.ensures.links (links_of f.tree) (item_links f) in
    record { decoded = links_answer f _ links; links = (f.tree, f.rest, first_front f, first_need (λ i. (c.type_inv.bytes i).fits) f, links) }

pub returns-in-Err : goal.returns-in-Err
returns-in-Err c =
    let f = c.in_ok-item.ensures in
    record { decoded = (f.tree, f.rest, f.decoded, c.in-Err.ensures.memory (links_of f.tree) (item_links f)); links = tt }
