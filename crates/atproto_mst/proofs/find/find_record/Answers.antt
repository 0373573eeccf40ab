use Rattle.std.proofs.Common.{◌⊎◌, ◌≡◌, inl, inr, ap, ◌∙◌, arith, Some, None}
use Rattle.ipld_links.specs.Reaching.{stored_in}
use Rattle.atproto_mst.specs.Nodes.{node_told}
use Rattle.atproto_mst.specs.Walks.{most_layers}
use Rattle.atproto_mst.specs.Stops.{IsStoredNamed}
use Rattle.atproto_mst.specs.Finding.{lookup, FindStops}
use Rattle.atproto_mst.specs.declared.error.MstError.TheVariants.{OutOfMemory, KeyFront, TooDeep}
use Rattle.atproto_mst.specs.declared.find.Sought.TheVariants as sought
use Rattle.atproto_mst.proofs.Searching.{fault_stops, record_found, none_found, front_stops, search_goes_on, depth_stops}
use Rattle.atproto_mst.proofs.Telling.{found_whole, refused_whole}
use Rattle.atproto_mst.proofs.Refusals.{handed_on, handed_on_err}
use Rattle.atproto_mst.proofs.find.find_record.Goals as goal

node_refused : (c : goal.After-from_residual) → ((c.in_err-node.field-0.0 ≡ OutOfMemory) × IsStoredNamed (stored_in c.args.blocks.now) c.args.root.now) ⊎ FindStops most_layers (stored_in c.args.blocks.now) c.args.key.now c.args.root.now c.in_err-node.field-0.0
node_refused c = elim (c.in_err-node.ensures) [
  | inl m ↦ inl (m.0, c.loop-layer.invariant.named m.1)
  | inr f ↦ inr (fault_stops most_layers (stored_in c.args.blocks.now) c.args.key.now c.args.root.now c.loop-layer.name c.loop-layer._layer c.loop-layer-test.true c.loop-layer.invariant c.in_err-node.field-0.0 f)
]

pub returns-in_err-node-clause-refused : goal.returns-in_err-node-clause-refused
returns-in_err-node-clause-refused c =
    handed_on_err (λ e. ((e ≡ OutOfMemory) × IsStoredNamed (stored_in c.args.blocks.now) c.args.root.now) ⊎ FindStops most_layers (stored_in c.args.blocks.now) c.args.key.now c.args.root.now e) c.from_residual.result c.in_err-node.field-0.0 c.from_residual.ensures.1 (node_refused c)

pub returns-in_err-node-clause-whole : goal.returns-in_err-node-clause-whole
returns-in_err-node-clause-whole c es h =
    handed_on (λ found. found ≡ lookup c.args.key.now es) (λ e. e ≡ OutOfMemory) c.from_residual.result c.in_err-node.field-0.0 c.from_residual.ensures.1
    (refused_whole (stored_in c.args.blocks.now) c.args.root.now c.args.key.now c.in_err-node.field-0.0 (node_refused c) es h)

pub returns-in-Record-clause-found : goal.returns-in-Record-clause-found
returns-in-Record-clause-found c =
    record_found most_layers (stored_in c.args.blocks.now) c.args.key.now c.args.root.now c.loop-layer.name c.loop-layer._layer c.loop-layer-test.true c.loop-layer.invariant
    (node_told c.in_ok-node.node) c.in_ok-node.ensures c.in_ok-sought.sought c.in_ok-sought.ensures c.in-Record.value c.in-Record.is

pub returns-in-Record-clause-whole : goal.returns-in-Record-clause-whole
returns-in-Record-clause-whole c = found_whole (stored_in c.args.blocks.now) c.args.root.now c.args.key.now (Some c.in-Record.value) (returns-in-Record-clause-found c)

pub returns-in-None-clause-found : goal.returns-in-None-clause-found
returns-in-None-clause-found c =
    let is : c.in_ok-sought.sought ≡ sought.Below None = c.in-Below.is ∙ ap sought.Below c.in-None.is in
    none_found most_layers (stored_in c.args.blocks.now) c.args.key.now c.args.root.now c.loop-layer.name c.loop-layer._layer c.loop-layer-test.true c.loop-layer.invariant
    (node_told c.in_ok-node.node) c.in_ok-node.ensures c.in_ok-sought.sought c.in_ok-sought.ensures is

pub returns-in-None-clause-whole : goal.returns-in-None-clause-whole
returns-in-None-clause-whole c = found_whole (stored_in c.args.blocks.now) c.args.root.now c.args.key.now None (returns-in-None-clause-found c)

front_refused : (c : goal.After-drop-node-in-KeyFront) → FindStops most_layers (stored_in c.args.blocks.now) c.args.key.now c.args.root.now KeyFront
front_refused c =
    front_stops most_layers (stored_in c.args.blocks.now) c.args.key.now c.args.root.now c.loop-layer.name c.loop-layer._layer c.loop-layer-test.true c.loop-layer.invariant
    (node_told c.in_ok-node.node) c.in_ok-node.ensures c.in_ok-sought.sought c.in_ok-sought.ensures c.in-KeyFront.is

pub returns-in-KeyFront-clause-refused : goal.returns-in-KeyFront-clause-refused
returns-in-KeyFront-clause-refused c = inr (front_refused c)

pub returns-in-KeyFront-clause-whole : goal.returns-in-KeyFront-clause-whole
returns-in-KeyFront-clause-whole c = refused_whole (stored_in c.args.blocks.now) c.args.root.now c.args.key.now KeyFront (inr (front_refused c))

pub loop-layer-preserved : goal.loop-layer-preserved
loop-layer-preserved c =
    let is : c.in_ok-sought.sought ≡ sought.Below (Some c.in-Some.next) = c.in-Below.is ∙ ap sought.Below c.in-Some.is in
    search_goes_on most_layers (stored_in c.args.blocks.now) c.args.key.now c.args.root.now c.loop-layer.name c.loop-layer._layer c.loop-layer-test.true c.loop-layer.invariant
    (node_told c.in_ok-node.node) c.in_ok-node.ensures c.in_ok-sought.sought c.in_ok-sought.ensures c.in-Some.next is

deep_refused : (c : goal.After-loop-layer) → FindStops most_layers (stored_in c.args.blocks.now) c.args.key.now c.args.root.now (TooDeep c.loop-layer.name)
deep_refused c = depth_stops most_layers (stored_in c.args.blocks.now) c.args.key.now c.args.root.now c.loop-layer.name c.loop-layer._layer (omega (arith, c.loop-layer-test.false)) c.loop-layer.invariant

pub returns-clause-refused : goal.returns-clause-refused
returns-clause-refused c = inr (deep_refused c)

pub returns-clause-whole : goal.returns-clause-whole
returns-clause-whole c = refused_whole (stored_in c.args.blocks.now) c.args.root.now c.args.key.now (TooDeep c.loop-layer.name) (inr (deep_refused c))
