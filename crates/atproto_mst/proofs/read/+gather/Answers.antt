use Rattle.std.proofs.Common.{◌≡◌, [], ◌+◌, ◌&&◌, suc, map, length, drop, arith, sym, subst}
use Rattle.std.proofs.lemmas.Result.{err_from_is_err_and}
use Rattle.ipld_links.specs.Reaching.{stored_in}
use Rattle.atproto_mst.specs.Entries.{entries}
use Rattle.atproto_mst.specs.Nodes.{row_told, node_told}
use Rattle.atproto_mst.specs.Walks.{WalksTree, WalksLink, WalksRows}
use Rattle.atproto_mst.specs.Stops.{StopsWalk, StopsInRows, last_entry_key}
use Rattle.atproto_mst.specs.Gathering.{GathersEntries, key_after}
use Rattle.atproto_mst.specs.InLayers.{IsRightBelow}
use Rattle.atproto_mst.proofs.Gathering.{GoesOn, SettledBy, or_more, both, all_three, gathers_no_link, gathers_node, stops_in_node, gathers_named, stops_named, no_node, below_decided, row_next, no_row_left, stops_at_row, stops_after_row, goes_after_row, goes_to_end, key_kept, still_there, settled_after_row}
use Rattle.atproto_mst.proofs.read.+gather.Goals as goal

pub gather-returns-in_err-node-clause-stopped : goal.gather-returns-in_err-node-clause-stopped
gather-returns-in_err-node-clause-stopped t c =
    let p = err_from_is_err_and c.from_residual.result c.from_residual.ensures.1 in
    let layers : suc c.in-Some.lower ≡ c.args.layers = omega (arith, c.in-Some.ensures) in
    rw (p.1, p.2) (no_node (stored_in c.args.blocks.now) c.args.name.now c.in-Some.lower c.args.layers layers (last_entry_key [] (entries c.args.found.now.items)) c.in_err-node.field-0.0 c.in_err-node.ensures)

pub gather-returns-in_err-fits-clause-stopped : goal.gather-returns-in_err-fits-clause-stopped
gather-returns-in_err-fits-clause-stopped t c =
    let p = err_from_is_err_and c.from_residual-in_err-fits.result c.from_residual-in_err-fits.ensures.1 in
    let layers : suc c.in-Some.lower ≡ c.args.layers = omega (arith, c.in-Some.ensures) in
    rw (p.1, p.2) (or_more (stops_named (stored_in c.args.blocks.now) c.args.name.now c.in-Some.lower c.args.layers (node_told c.in_ok-node.node) c.in_ok-node.ensures layers
    (last_entry_key [] (entries c.args.found.now.items)) c.in_err-fits.field-0.0) c.in_err-fits.ensures.stopped)

pub gather-returns-clause-walked : goal.gather-returns-clause-walked
gather-returns-clause-walked t c =
    let layers : suc c.in-Some.lower ≡ c.args.layers = omega (arith, c.in-Some.ensures) in
    gathers_named (stored_in c.args.blocks.now) c.args.name.now c.in-Some.lower c.args.layers (node_told c.in_ok-node.node) c.in_ok-node.ensures layers c.args.found.now c.gather_node.new.found c.in_ok-fits.ensures.walked

pub gather-returns-clause-fits : goal.gather-returns-clause-fits
gather-returns-clause-fits t c =
    below_decided (stored_in c.args.blocks.now) c.args.name.now c.args.above c.saturating_sub.result (node_told c.in_ok-node.node) c.is_lower-is_node.result c.in_ok-fits.fits
    (c.in_ok-fits.fits && c.is_lower-is_node.result) c.in_ok-node.ensures (omega (arith, c.saturating_sub.ensures)) c.is_lower-is_node.ensures c.in_ok-fits.ensures.fits (both c.in_ok-fits.fits c.is_lower-is_node.result)

pub gather_below-returns-in_default-clause-walked : goal.gather_below-returns-in_default-clause-walked
gather_below-returns-in_default-clause-walked t c = gathers_no_link (WalksTree c.args.layers (stored_in c.args.blocks.now)) c.args.link.now c.in_default.is c.args.found.now

pub gather_node-returns-in_err-rows-clause-stopped :
    goal.gather_node-returns-in_err-rows-clause-stopped
gather_node-returns-in_err-rows-clause-stopped t c =
    let p = err_from_is_err_and c.from_residual-in_err-rows.result c.from_residual-in_err-rows.ensures.1 in
    let W = WalksTree c.args.layers (stored_in c.args.blocks.now) in
    let S = StopsWalk c.args.layers (stored_in c.args.blocks.now) in
    rw (p.1, p.2) (or_more (λ h. stops_in_node (stored_in c.args.blocks.now) c.args.layers (node_told c.args.node.now) c.args.found.now c.gather_below.new.found c.in_ok-left.ensures.walked c.in_err-rows.field-0.0
    (subst (λ rows. StopsInRows W S (last_entry_key [] (entries c.gather_below.new.found.items)) [] (map row_told rows) c.in_err-rows.field-0.0) c.deref.ensures.value h)) c.in_err-rows.ensures.stopped)

pub gather_node-returns-clause-walked : goal.gather_node-returns-clause-walked
gather_node-returns-clause-walked t c =
    gathers_node (stored_in c.args.blocks.now) c.args.layers (node_told c.args.node.now) c.args.found.now c.gather_below.new.found c.in_ok-left.ensures.walked c.gather_rows.new.found
    (subst (λ rows. GathersEntries (WalksRows (WalksTree c.args.layers (stored_in c.args.blocks.now)) [] (map row_told rows)) c.gather_below.new.found c.gather_rows.new.found) c.deref.ensures.value c.in_ok-rows.ensures.walked)

pub gather_rows-returns-in_err-is_row-clause-stopped :
    goal.gather_rows-returns-in_err-is_row-clause-stopped
gather_rows-returns-in_err-is_row-clause-stopped t c =
    let p = err_from_is_err_and c.from_residual.result c.from_residual.ensures.1 in
    let W = WalksTree c.args.layers (stored_in c.args.blocks.now) in
    let S = StopsWalk c.args.layers (stored_in c.args.blocks.now) in
    let all = map row_told c.args.rows.now in
    let rest = map row_told (drop (c.loop-row.row-index + 1) c.args.rows.now) in
    let key = key_after c.loop-row.previous c.loop-row.found.items in
    let go = subst (GoesOn W S c.args.found.now all c.loop-row.found key)
    (row_next c.args.rows.now c.loop-row.row-index c.row-item.result c.loop-row-test.true c.row-item.is) c.loop-row.invariant.1 in
    rw (p.1, p.2) (or_more (stops_at_row W S c.args.found.now all c.loop-row.found key (row_told c.row-item.result) rest go c.in_err-is_row.field-0.0) c.in_err-is_row.ensures.stopped)

pub gather_rows-returns-in_err-below-clause-stopped :
    goal.gather_rows-returns-in_err-below-clause-stopped
gather_rows-returns-in_err-below-clause-stopped t c =
    let p = err_from_is_err_and c.from_residual-in_err-below.result c.from_residual-in_err-below.ensures.1 in
    let W = WalksTree c.args.layers (stored_in c.args.blocks.now) in
    let S = StopsWalk c.args.layers (stored_in c.args.blocks.now) in
    let all = map row_told c.args.rows.now in
    let rest = map row_told (drop (c.loop-row.row-index + 1) c.args.rows.now) in
    let key = key_after c.loop-row.previous c.loop-row.found.items in
    let go = subst (GoesOn W S c.args.found.now all c.loop-row.found key)
    (row_next c.args.rows.now c.loop-row.row-index c.row-item.result c.loop-row-test.true c.row-item.is) c.loop-row.invariant.1 in
    rw (p.1, p.2) (or_more (stops_after_row W S c.args.found.now all c.loop-row.found key (row_told c.row-item.result) rest go
    c.add_row.new.found c.in_ok-is_row.ensures.added c.in_err-below.field-0.0) c.in_err-below.ensures.stopped)

pub gather_rows-loop-row-preserved : goal.gather_rows-loop-row-preserved
gather_rows-loop-row-preserved t c =
    let W = WalksTree c.args.layers (stored_in c.args.blocks.now) in
    let S = StopsWalk c.args.layers (stored_in c.args.blocks.now) in
    let F = IsRightBelow (stored_in c.args.blocks.now) c.args.layer in
    let all = map row_told c.args.rows.now in
    let rest = map row_told (drop (c.loop-row.row-index + 1) c.args.rows.now) in
    let key = key_after c.loop-row.previous c.loop-row.found.items in
    let row = row_told c.row-item.result in
    let next = row_next c.args.rows.now c.loop-row.row-index c.row-item.result c.loop-row-test.true c.row-item.is in
    let go = subst (GoesOn W S c.args.found.now all c.loop-row.found key) next c.loop-row.invariant.1 in
    let settled = subst (SettledBy F c.args.layer all c.loop-row.fits key) next c.loop-row.invariant.2 in
    let late = c.gather_below.new.found in
    let count : length c.add_row.new.found.items ≡ c.len-previous.result = omega (arith, c.len-previous.ensures, c.add_row.new.found.ok.0, c.add_row.new.found.ok.1) in
    let kept = key_kept (WalksLink W row.after) row key c.loop-row.found c.add_row.new.found late c.in_ok-is_row.ensures.added c.in_ok-below.ensures.walked in
    let fits = (c.loop-row.fits && c.in_ok-is_row.is_row) && c.in_ok-below.below in (
      omega (arith, count, still_there (WalksLink W row.after) c.add_row.new.found late c.in_ok-below.ensures.walked),
      subst (λ n. GoesOn W S c.args.found.now all late (key_after n late.items) rest) count
          (goes_after_row W S c.args.found.now all c.loop-row.found key row rest go c.add_row.new.found c.in_ok-is_row.ensures.added late c.in_ok-below.ensures.walked),
      subst (λ n. SettledBy F c.args.layer all fits (key_after n late.items) rest) count
          (subst (λ k. SettledBy F c.args.layer all fits k rest) (sym kept)
          (settled_after_row F c.args.layer all c.loop-row.fits c.in_ok-is_row.is_row c.in_ok-below.below fits key row rest settled c.in_ok-is_row.ensures.fits c.in_ok-below.ensures.fits
          (all_three c.loop-row.fits c.in_ok-is_row.is_row c.in_ok-below.below))),
    )

pub gather_rows-returns-clause-walked : goal.gather_rows-returns-clause-walked
gather_rows-returns-clause-walked t c =
    let W = WalksTree c.args.layers (stored_in c.args.blocks.now) in
    let S = StopsWalk c.args.layers (stored_in c.args.blocks.now) in
    let all = map row_told c.args.rows.now in
    let key = key_after c.loop-row.previous c.loop-row.found.items in
    goes_to_end W S c.args.found.now all c.loop-row.found key
    (subst (GoesOn W S c.args.found.now all c.loop-row.found key) (no_row_left c.args.rows.now c.loop-row.row-index c.loop-row-test.false) c.loop-row.invariant.1)
