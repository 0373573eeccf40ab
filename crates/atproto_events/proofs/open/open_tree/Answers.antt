use Rattle.std.proofs.Common.{◌≡◌, None, subst, ap}
use Rattle.std.specs.Prelude.{MatchOption}
use Rattle.ipld_links.specs.Reaching.{stored_in}
use Rattle.atproto_mst.specs.Nodes.{IsNodeAt, node_told}
use Rattle.atproto_events.specs.Pieces.{pieces}
use Rattle.atproto_events.proofs.Opening.{none_held, tree_opened, tree_stops}
use Rattle.std.proofs.lemmas.Result.{err_from_is_err_and}
use Rattle.atproto_events.proofs.open.open_tree.Goals as goal

pub returns-clause-opened : goal.returns-clause-opened
returns-clause-opened c =
    let stored = stored_in c.args.blocks.now in
    let root = c.args.root.now in
    tree_opened stored root c.root_layer.result (node_told c.in-Some.node) (pieces c.new-found.result.items) (pieces c.open_node.new.found.items)
    (subst (λ o. MatchOption o (stored root ≡ None) (λ n. IsNodeAt stored root (node_told n))) c.in-Some.is c.in_ok-node.ensures.found) c.root_layer.ensures (ap pieces c.new-found.ensures.items)
    c.in_ok-open_node.ensures.opened

pub open_node-requires : goal.open_node-requires
open_node-requires c = none_held c.new-lost.result (pieces c.new-found.result.items) c.new-lost.ensures

pub returns-in_err-open_node-clause-refused : goal.returns-in_err-open_node-clause-refused
returns-in_err-open_node-clause-refused c =
    let p = err_from_is_err_and c.from_residual-in_err-open_node.result c.from_residual-in_err-open_node.ensures.1 in
    let stored = stored_in c.args.blocks.now in
    let root = c.args.root.now in
    rw (p.1, p.2) (tree_stops stored root c.root_layer.result (node_told c.in-Some.node) (pieces c.new-found.result.items) c.in_err-open_node.field-0.0
    (subst (λ o. MatchOption o (stored root ≡ None) (λ n. IsNodeAt stored root (node_told n))) c.in-Some.is c.in_ok-node.ensures.found) c.root_layer.ensures (ap pieces c.new-found.ensures.items)
    c.in_err-open_node.ensures.refused)
