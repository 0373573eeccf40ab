use Rattle.std.proofs.Common.{◌≡◌, ◌+◌, [], ◌∷◌, suc, inr, None, Some, map, drop, sym, subst, arith}
use Rattle.std.specs.Prelude.{MatchOption}
use Rattle.std.proofs.lemmas.Result.{err_from_is_err_and}
use Rattle.ipld_links.specs.Reaching.{stored_in}
use Rattle.atproto_mst.specs.Nodes.{IsNodeAt, row_told, node_told}
use Rattle.atproto_events.specs.Pieces.{pieces, OpensBelow}
use Rattle.atproto_events.specs.Opening.{StopsBelow}
use Rattle.atproto_events.proofs.Opening.{GoesOn, StopsOn, goes_begins, goes_next, goes_end, stops_begins, stops_next, stops_at_row, stops_after_row, stops_left, still_held, rows_at, name_stops, empty_stops, no_layer_stops, no_layer, kept_stops, node_stops, link_opened, link_kept, no_rows_left}
use Rattle.atproto_events.proofs.open.+open.Goals as goal

-- ---- a link

pub open_link-returns-in_default-checked_sub-clause-refused : goal.open_link-returns-in_default-checked_sub-clause-refused
open_link-returns-in_default-checked_sub-clause-refused t c =
    inr (no_layer_stops (stored_in c.args.blocks.now) c.args.above (pieces c.args.found.now.items) c.args.link.now c.in-Some.name c.in-Some.is (no_layer c.args.above c.in_default-checked_sub.ensures))

pub open_link-returns-in_err-node-clause-refused : goal.open_link-returns-in_err-node-clause-refused
open_link-returns-in_err-node-clause-refused t c =
    let p = err_from_is_err_and c.from_residual.result c.from_residual.ensures.1 in
    let layer : c.args.above ≡ suc c.in-Some-checked_sub.layer = omega (arith, c.in-Some-checked_sub.ensures) in
    rw (p.1, p.2) (inr (name_stops (stored_in c.args.blocks.now) c.in-Some-checked_sub.layer c.args.above (pieces c.args.found.now.items) c.args.link.now c.in-Some.name c.in_err-node.field-0.0 c.in-Some.is layer
    c.in_err-node.ensures.refused))

pub open_link-returns-in_default-2-clause-opened : goal.open_link-returns-in_default-2-clause-opened
open_link-returns-in_default-2-clause-opened t c =
    let stored = stored_in c.args.blocks.now in
    let layer : c.args.above ≡ suc c.in-Some-checked_sub.layer = omega (arith, c.in-Some-checked_sub.ensures) in
    link_kept c.push_subtree.result stored c.in-Some-checked_sub.layer c.args.above c.args.link.now c.in-Some.name (pieces c.args.found.now.items) (pieces c.push_subtree.new.found.items) c.in-Some.is layer
    (subst (λ o. MatchOption o (stored c.in-Some.name ≡ None) (λ n. IsNodeAt stored c.in-Some.name (node_told n))) c.in_default-2.is c.in_ok-node.ensures.found) c.push_subtree.ensures.pushed

pub open_link-returns-in_default-2-clause-refused : goal.open_link-returns-in_default-2-clause-refused
open_link-returns-in_default-2-clause-refused t c =
    let stored = stored_in c.args.blocks.now in
    let layer : c.args.above ≡ suc c.in-Some-checked_sub.layer = omega (arith, c.in-Some-checked_sub.ensures) in
    kept_stops c.push_subtree.result stored c.in-Some-checked_sub.layer c.args.above (pieces c.args.found.now.items) c.args.link.now c.in-Some.name c.in-Some.is layer
    (subst (λ o. MatchOption o (stored c.in-Some.name ≡ None) (λ n. IsNodeAt stored c.in-Some.name (node_told n))) c.in_default-2.is c.in_ok-node.ensures.found) c.push_subtree.ensures.refused

pub open_link-returns-then-is_empty-clause-refused : goal.open_link-returns-then-is_empty-clause-refused
open_link-returns-then-is_empty-clause-refused t c =
    let stored = stored_in c.args.blocks.now in
    let layer : c.args.above ≡ suc c.in-Some-checked_sub.layer = omega (arith, c.in-Some-checked_sub.ensures) in
    inr (empty_stops stored c.in-Some-checked_sub.layer c.args.above (pieces c.args.found.now.items) c.args.link.now c.in-Some.name (node_told c.in-Some-2.node) c.in-Some.is layer
    (subst (λ o. MatchOption o (stored c.in-Some.name ≡ None) (λ n. IsNodeAt stored c.in-Some.name (node_told n))) c.in-Some-2.is c.in_ok-node.ensures.found) (c.is_empty.ensures c.if-is_empty.true))

pub open_link-returns-clause-opened : goal.open_link-returns-clause-opened
open_link-returns-clause-opened t c =
    let stored = stored_in c.args.blocks.now in
    let layer : c.args.above ≡ suc c.in-Some-checked_sub.layer = omega (arith, c.in-Some-checked_sub.ensures) in
    link_opened c.open_node.result stored c.in-Some-checked_sub.layer c.args.above c.args.link.now c.in-Some.name (node_told c.in-Some-2.node) (pieces c.args.found.now.items) (pieces c.open_node.new.found.items)
    c.in-Some.is layer (subst (λ o. MatchOption o (stored c.in-Some.name ≡ None) (λ n. IsNodeAt stored c.in-Some.name (node_told n))) c.in-Some-2.is c.in_ok-node.ensures.found) c.open_node.ensures.opened

pub open_link-returns-clause-refused : goal.open_link-returns-clause-refused
open_link-returns-clause-refused t c =
    let stored = stored_in c.args.blocks.now in
    let layer : c.args.above ≡ suc c.in-Some-checked_sub.layer = omega (arith, c.in-Some-checked_sub.ensures) in
    node_stops c.open_node.result stored c.in-Some-checked_sub.layer c.args.above (pieces c.args.found.now.items) c.args.link.now c.in-Some.name (node_told c.in-Some-2.node) c.in-Some.is layer
    (subst (λ o. MatchOption o (stored c.in-Some.name ≡ None) (λ n. IsNodeAt stored c.in-Some.name (node_told n))) c.in-Some-2.is c.in_ok-node.ensures.found) c.open_node.ensures.refused

-- ---- a node

pub open_node-returns-in_err-open_link-clause-refused : goal.open_node-returns-in_err-open_link-clause-refused
open_node-returns-in_err-open_link-clause-refused t c =
    let p = err_from_is_err_and c.from_residual.result c.from_residual.ensures.1 in
    let stored = stored_in c.args.blocks.now in
    rw (p.1, p.2) (stops_left (OpensBelow stored c.args.layer) (StopsBelow stored c.args.layer) c.args.layer (node_told c.args.node.now) (pieces c.args.found.now.items) c.in_err-open_link.field-0.0
    c.in_err-open_link.ensures.refused)

pub open_node-loop-row-init : goal.open_node-loop-row-init
open_node-loop-row-init t c =
    let F = OpensBelow (stored_in c.args.blocks.now) c.args.layer in
    let S = StopsBelow (stored_in c.args.blocks.now) c.args.layer in
    let p = node_told c.args.node.now in
    let old = pieces c.args.found.now.items in
    let now = pieces c.open_link.new.found.items in
    let key = c.new-key.result.items in
    record {
      same = c.deref-row-items.ensures.value;
      held = c.in_ok-open_link.ensures.held;
      stops = subst (λ xs. StopsOn F S c.args.layer p old now key (map row_told xs)) (sym c.deref-row-items.ensures.value)
          (stops_begins F S c.args.layer p old now key c.new-key.ensures.items c.in_ok-open_link.ensures.opened);
      goes = subst (λ xs. GoesOn F c.args.layer p.left p.rows old key (map row_told xs) now) (sym c.deref-row-items.ensures.value)
          (goes_begins F c.args.layer p.left p.rows old now key c.new-key.ensures.items c.in_ok-open_link.ensures.opened);
    }

pub open_node-returns-in_err-push_row-clause-refused : goal.open_node-returns-in_err-push_row-clause-refused
open_node-returns-in_err-push_row-clause-refused t c =
    let p = err_from_is_err_and c.from_residual-in_err-push_row.result c.from_residual-in_err-push_row.ensures.1 in
    let F = OpensBelow (stored_in c.args.blocks.now) c.args.layer in
    let S = StopsBelow (stored_in c.args.blocks.now) c.args.layer in
    let held = c.deref-row-items.result.now in
    let at = c.loop-row.row-index in
    let row = c.row-item.result in
    let old = pieces c.args.found.now.items in
    let now = pieces c.loop-row.found.items in
    rw (p.1, p.2) (stops_at_row F S c.args.layer (node_told c.args.node.now) old c.loop-row.key.items (row_told row) (map row_told (drop (at + 1) held)) now c.in_err-push_row.field-0.0 c.in_err-push_row.ensures.refused
    (subst (λ x. StopsOn F S c.args.layer (node_told c.args.node.now) old now c.loop-row.key.items x) (rows_at held at row c.loop-row-test.true (sym c.row-item.is)) c.loop-row.invariant.stops))

pub open_node-open_link-requires-in-loop-row : goal.open_node-open_link-requires-in-loop-row
open_node-open_link-requires-in-loop-row t c = (
  omega (arith, c.decreases),
  still_held c.loop-row.lost (pieces c.loop-row.found.items) (pieces c.push_row.new.found.items) (record { layer = c.args.layer; key = Some c.push_row.new.key.items; cid = c.row-item.result.v } ∷ [])
      c.in_ok-push_row.ensures.pushed c.loop-row.invariant.held,
)

pub open_node-returns-in_err-open_link-2-clause-refused : goal.open_node-returns-in_err-open_link-2-clause-refused
open_node-returns-in_err-open_link-2-clause-refused t c =
    let p = err_from_is_err_and c.from_residual-in_err-open_link-2.result c.from_residual-in_err-open_link-2.ensures.1 in
    let F = OpensBelow (stored_in c.args.blocks.now) c.args.layer in
    let S = StopsBelow (stored_in c.args.blocks.now) c.args.layer in
    let held = c.deref-row-items.result.now in
    let at = c.loop-row.row-index in
    let row = c.row-item.result in
    let old = pieces c.args.found.now.items in
    let now = pieces c.loop-row.found.items in
    rw (p.1, p.2) (stops_after_row F S c.args.layer (node_told c.args.node.now) old c.loop-row.key.items c.push_row.new.key.items (row_told row) (map row_told (drop (at + 1) held)) now (pieces c.push_row.new.found.items)
    c.in_err-open_link-2.field-0.0 c.in_ok-push_row.ensures.key c.in_ok-push_row.ensures.pushed c.in_err-open_link-2.ensures.refused
    (subst (λ x. StopsOn F S c.args.layer (node_told c.args.node.now) old now c.loop-row.key.items x) (rows_at held at row c.loop-row-test.true (sym c.row-item.is)) c.loop-row.invariant.stops))

pub open_node-loop-row-preserved : goal.open_node-loop-row-preserved
open_node-loop-row-preserved t c =
    let F = OpensBelow (stored_in c.args.blocks.now) c.args.layer in
    let S = StopsBelow (stored_in c.args.blocks.now) c.args.layer in
    let p = node_told c.args.node.now in
    let held = c.deref-row-items.result.now in
    let at = c.loop-row.row-index in
    let row = c.row-item.result in
    let old = pieces c.args.found.now.items in
    let now = pieces c.loop-row.found.items in
    let rows = rows_at held at row c.loop-row-test.true (sym c.row-item.is) in
    record {
      same = c.deref-row-items.ensures.value;
      held = c.in_ok-open_link-2.ensures.held;
      stops = stops_next F S c.args.layer p old c.loop-row.key.items c.push_row.new.key.items (row_told row) (map row_told (drop (at + 1) held)) now (pieces c.push_row.new.found.items)
          (pieces c.open_link-in-loop-row.new.found.items) c.in_ok-push_row.ensures.key c.in_ok-push_row.ensures.pushed c.in_ok-open_link-2.ensures.opened
          (subst (λ x. StopsOn F S c.args.layer p old now c.loop-row.key.items x) rows c.loop-row.invariant.stops);
      goes = goes_next F c.args.layer p.left p.rows old c.loop-row.key.items c.push_row.new.key.items (row_told row) (map row_told (drop (at + 1) held)) now (pieces c.push_row.new.found.items)
          (pieces c.open_link-in-loop-row.new.found.items) c.in_ok-push_row.ensures.key c.in_ok-push_row.ensures.layer c.in_ok-push_row.ensures.pushed c.in_ok-open_link-2.ensures.opened
          (subst (λ x. GoesOn F c.args.layer p.left p.rows old c.loop-row.key.items x now) rows c.loop-row.invariant.goes);
    }

pub open_node-returns-clause-opened : goal.open_node-returns-clause-opened
open_node-returns-clause-opened t c =
    goes_end (OpensBelow (stored_in c.args.blocks.now) c.args.layer) c.args.layer c.args.node.now.l (map row_told c.args.node.now.e.items) (pieces c.args.found.now.items) c.loop-row.key.items
    (map row_told (drop c.loop-row.row-index c.deref-row-items.result.now)) (pieces c.loop-row.found.items) (no_rows_left c.deref-row-items.result.now c.loop-row.row-index c.loop-row-test.false) c.loop-row.invariant.goes
