use Rattle.std.proofs.Common.{[], refl}
use Rattle.std.proofs.lemmas.Result.{err_from_is_err_and}
use Rattle.ipld_links.specs.Reaching.{stored_in}
use Rattle.atproto_mst.specs.Nodes.{node_told}
use Rattle.atproto_mst.specs.Walks.{most_layers}
use Rattle.atproto_mst.proofs.Gathering.{no_node}
use Rattle.atproto_mst.proofs.Listings.{refused_by, no_root, stops_for_memory, stops_at_root, read_root, other_root, refused_root, found_root}
use Rattle.atproto_mst.proofs.read.read_mst.Goals as goal

pub returns-in_err-node-clause-refused : goal.returns-in_err-node-clause-refused
returns-in_err-node-clause-refused c =
    let p = err_from_is_err_and c.from_residual.result c.from_residual.ensures.1 in
    rw (p.1, p.2) (no_root (stored_in c.args.blocks.now) c.args.root.now c.in_err-node.field-0.0 c.in_err-node.ensures)

pub returns-in_err-node-clause-whole : goal.returns-in_err-node-clause-whole
returns-in_err-node-clause-whole c es h =
    let p = err_from_is_err_and c.from_residual.result c.from_residual.ensures.1 in
    rw (p.1, p.2) (stops_for_memory (stored_in c.args.blocks.now) c.args.root.now c.in_err-node.field-0.0 (no_node (stored_in c.args.blocks.now) c.args.root.now 128 most_layers refl [] c.in_err-node.field-0.0 c.in_err-node.ensures) es h)

pub returns-in_err-is_root-clause-refused : goal.returns-in_err-is_root-clause-refused
returns-in_err-is_root-clause-refused c =
    let p = err_from_is_err_and c.from_residual-in_err-is_root.result c.from_residual-in_err-is_root.ensures.1 in
    rw (p.1, p.2) (refused_by (stored_in c.args.blocks.now) c.args.root.now c.in_err-is_root.field-0.0 (node_told c.in_ok-node.node) c.in_ok-node.ensures
    (stops_at_root (stored_in c.args.blocks.now) c.args.root.now (node_told c.in_ok-node.node) c.in_ok-node.ensures c.new-found.result c.new-found.ensures.items c.in_err-is_root.field-0.0 c.in_err-is_root.ensures.stopped))

pub returns-in_err-is_root-clause-whole : goal.returns-in_err-is_root-clause-whole
returns-in_err-is_root-clause-whole c es h =
    let p = err_from_is_err_and c.from_residual-in_err-is_root.result c.from_residual-in_err-is_root.ensures.1 in
    rw (p.1, p.2) (stops_for_memory (stored_in c.args.blocks.now) c.args.root.now c.in_err-is_root.field-0.0
    (stops_at_root (stored_in c.args.blocks.now) c.args.root.now (node_told c.in_ok-node.node) c.in_ok-node.ensures c.new-found.result c.new-found.ensures.items c.in_err-is_root.field-0.0 c.in_err-is_root.ensures.stopped) es h)

pub returns-then-is_root-clause-read : goal.returns-then-is_root-clause-read
returns-then-is_root-clause-read c =
    read_root (stored_in c.args.blocks.now) c.args.root.now (node_told c.in_ok-node.node) c.in_ok-node.ensures c.new-found.result c.new-found.ensures.items c.gather_node.new.found c.in_ok-is_root.ensures.walked
    c.root_layer-layer.result c.root_layer-layer.ensures c.in_ok-is_root.is_root c.in_ok-is_root.ensures.fits c.if-is_root.true

pub returns-then-is_root-clause-whole : goal.returns-then-is_root-clause-whole
returns-then-is_root-clause-whole c es h =
    found_root (stored_in c.args.blocks.now) c.args.root.now (node_told c.in_ok-node.node) c.in_ok-node.ensures c.new-found.result c.new-found.ensures.items c.gather_node.new.found c.in_ok-is_root.ensures.walked es h

pub returns-clause-refused : goal.returns-clause-refused
returns-clause-refused c =
    refused_root (stored_in c.args.blocks.now) c.args.root.now (node_told c.in_ok-node.node) c.in_ok-node.ensures c.new-found.result c.new-found.ensures.items c.gather_node.new.found c.in_ok-is_root.ensures.walked
    c.root_layer-layer.result c.root_layer-layer.ensures c.in_ok-is_root.is_root c.in_ok-is_root.ensures.fits c.if-is_root.false

pub returns-clause-whole : goal.returns-clause-whole
returns-clause-whole c es h = absurd (
    other_root (stored_in c.args.blocks.now) c.args.root.now (node_told c.in_ok-node.node) c.in_ok-node.ensures c.new-found.result c.new-found.ensures.items c.gather_node.new.found c.in_ok-is_root.ensures.walked
    c.root_layer-layer.result c.root_layer-layer.ensures c.in_ok-is_root.is_root c.in_ok-is_root.ensures.fits c.if-is_root.false es h)
