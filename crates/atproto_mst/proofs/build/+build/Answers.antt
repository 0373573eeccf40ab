use Rattle.std.proofs.lemmas.List.{append_assoc}
use Rattle.std.proofs.Common.{◌≡◌, ◌+◌, [], ◌∷◌, ◌++◌, map, sym, ap, ◌∙◌, arith, subst, IfOk, length, take, drop}
use Rattle.std.proofs.lemmas.Result.{err_from_is_err_and, IfErr-weaker}
use Rattle.ipld_tree.specs.Spelling.{spelling}
use Rattle.ipld_links.specs.Names.{block_name}
use Rattle.atproto_mst.specs.Trees.{lower_run, entry_trees, subtree, subtree_nodes, nodes, nodes_between, node_section, node_map}
use Rattle.atproto_mst.specs.Nodes.{tree_of_row, row_told}
use Rattle.atproto_mst.specs.Placed.{all_told}
use Rattle.atproto_mst.specs.Sinks.{HandsOver, HandsOverFirst, RefusesOne}
use Rattle.atproto_mst.proofs.Runs.{upper_tops}
use Rattle.atproto_mst.proofs.Handing.{takes_then, refuses_within, first_within}
use Rattle.atproto_mst.proofs.Building.{on_ok_more, none_at_zero, none_over_none, no_nodes_at_zero, no_nodes_over_none, takes_no_nodes, some_subtree, nodes_subtree, node_made, left_refused, rows_refused, last_refused, left_begun, rows_begun, last_begun, node_taken, rows_next, nodes_here, tops_next, rest_whole, bound_next}
use Rattle.atproto_mst.proofs.build.+build.Goals as goal
use Rattle.atproto_mst.proofs.build.+build.Goals.{name_subtree-then-layer-eq0-via-then-layer-eq0, name_subtree-then-layer-eq0-via-else-layer-eq0+then-is_empty}

pub name_node-returns-in_err-left-clause-refused : goal.name_node-returns-in_err-left-clause-refused
name_node-returns-in_err-left-clause-refused g t c =
    let p = err_from_is_err_and c.from_residual.result c.from_residual.ensures.1 in
    rw (p.1, p.2) (left_refused g.S.NodeSink.holds g.S.NodeSink.refuses c.args.sink.now c.args.layer (all_told c.args.leaves.now) (all_told c.split_lower.result.0.now) c.in_err-left.field-0.0 c.split_lower.ensures.lower c.in_err-left.ensures.refused)

pub name_node-returns-in_err-left-clause-begun : goal.name_node-returns-in_err-left-clause-begun
name_node-returns-in_err-left-clause-begun g t c =
    let p = err_from_is_err_and c.from_residual.result c.from_residual.ensures.1 in
    rw p.1 (left_begun g.S.NodeSink.holds c.args.sink.now c.name_subtree.new.sink c.args.layer (all_told c.args.leaves.now) (all_told c.split_lower.result.0.now) c.split_lower.ensures.lower c.in_err-left.ensures.begun)

pub name_node-returns-in_err-rows-clause-begun : goal.name_node-returns-in_err-rows-clause-begun
name_node-returns-in_err-rows-clause-begun g t c =
    let p = err_from_is_err_and c.from_residual-in_err-rows.result c.from_residual-in_err-rows.ensures.1 in
    rw p.1 (rows_begun g.S.NodeSink.holds c.args.sink.now c.name_subtree.new.sink c.name_rows.new.sink c.args.layer (all_told c.args.leaves.now) (all_told c.split_lower.result.0.now) (all_told c.split_lower.result.1.now) c.split_lower.ensures.lower c.split_lower.ensures.rest c.in_ok-left.ensures.taken c.in_err-rows.ensures.begun)

pub name_node-returns-clause-begun : goal.name_node-returns-clause-begun
name_node-returns-clause-begun g t c =
    IfErr-weaker c.hand_over.result
    (λ _. HandsOverFirst g.S.NodeSink.holds c.name_rows.new.sink (node_section (node_map (map tree_of_row (map row_told c.in_ok-rows.rows.items)) c.in_ok-left.left) ∷ []) c.hand_over.new.sink)
    (λ _. HandsOverFirst g.S.NodeSink.holds c.args.sink.now (nodes c.args.layer (all_told c.args.leaves.now)) c.hand_over.new.sink)
    (λ e h. last_begun g.S.NodeSink.holds c.args.sink.now c.name_subtree.new.sink c.name_rows.new.sink c.hand_over.new.sink c.args.layer (all_told c.args.leaves.now) (all_told c.split_lower.result.0.now) (all_told c.split_lower.result.1.now)
    (node_map (map tree_of_row (map row_told c.in_ok-rows.rows.items)) c.in_ok-left.left) c.split_lower.ensures.lower c.split_lower.ensures.rest
    (node_made c.args.layer (all_told c.args.leaves.now) (all_told c.split_lower.result.0.now) (all_told c.split_lower.result.1.now) c.in_ok-left.left c.in_ok-rows.rows.items c.split_lower.ensures.lower c.split_lower.ensures.rest c.in_ok-left.ensures.name c.in_ok-rows.ensures.rows)
    c.in_ok-left.ensures.taken c.in_ok-rows.ensures.taken h)
    c.hand_over.ensures.begun

pub name_rows-returns-in_err-after-clause-begun : goal.name_rows-returns-in_err-after-clause-begun
name_rows-returns-in_err-after-clause-begun g t c =
    let p = err_from_is_err_and c.from_residual-in_err-after.result c.from_residual-in_err-after.ensures.1 in
    let b = rest_whole (c.loop-at.at + 1) c.args.leaves.now in
    let count = c.count_lower-count.ensures.count ∙ ap (λ x. length (lower_run c.args.layer (all_told x))) b in
    let k = c.loop-at.invariant.taken in
    rw p.1 (first_within g.S.NodeSink.holds c.args.sink.now c.loop-at.sink c.name_subtree.new.sink k.0 (subtree_nodes c.args.layer (all_told (take c.count_lower-count.result (drop (c.loop-at.at + 1) c.args.leaves.now)))) (nodes_between (subtree_nodes c.args.layer) c.args.layer (all_told (drop (c.loop-at.at + (1 + c.count_lower-count.result)) c.args.leaves.now))) (nodes_between (subtree_nodes c.args.layer) c.args.layer (all_told c.args.leaves.now)) k.2
    (nodes_here (subtree_nodes c.args.layer) c.args.layer c.loop-at.at c.count_lower-count.result c.args.leaves.now c.index-leaves-at.result k.0 (nodes_between (subtree_nodes c.args.layer) c.args.layer (all_told c.args.leaves.now)) (omega arith) (sym c.index-leaves-at.is) count c.loop-at.invariant.tops k.1)
    (subst (λ x. HandsOverFirst g.S.NodeSink.holds c.loop-at.sink (subtree_nodes c.args.layer (all_told (take c.count_lower-count.result x))) c.name_subtree.new.sink) b c.in_err-after.ensures.begun))

pub name_rows-returns-in_err-row-clause-begun : goal.name_rows-returns-in_err-row-clause-begun
name_rows-returns-in_err-row-clause-begun g t c =
    let p = err_from_is_err_and c.from_residual-in_err-row.result c.from_residual-in_err-row.ensures.1 in
    let b = rest_whole (c.loop-at.at + 1) c.args.leaves.now in
    let count = c.count_lower-count.ensures.count ∙ ap (λ x. length (lower_run c.args.layer (all_told x))) b in
    let k = c.loop-at.invariant.taken in
    rw p.1 (
      k.0 ++ subtree_nodes c.args.layer (all_told (take c.count_lower-count.result (drop (c.loop-at.at + 1) c.args.leaves.now))),
      nodes_between (subtree_nodes c.args.layer) c.args.layer (all_told (drop (c.loop-at.at + (1 + c.count_lower-count.result)) c.args.leaves.now)),
      sym (append_assoc k.0 (subtree_nodes c.args.layer (all_told (take c.count_lower-count.result (drop (c.loop-at.at + 1) c.args.leaves.now)))) (nodes_between (subtree_nodes c.args.layer) c.args.layer (all_told (drop (c.loop-at.at + (1 + c.count_lower-count.result)) c.args.leaves.now)))
          ∙ nodes_here (subtree_nodes c.args.layer) c.args.layer c.loop-at.at c.count_lower-count.result c.args.leaves.now c.index-leaves-at.result k.0 (nodes_between (subtree_nodes c.args.layer) c.args.layer (all_told c.args.leaves.now)) (omega arith) (sym c.index-leaves-at.is) count c.loop-at.invariant.tops k.1),
      takes_then g.S.NodeSink.holds c.args.sink.now c.loop-at.sink c.name_subtree.new.sink k.0 (subtree_nodes c.args.layer (all_told (take c.count_lower-count.result (drop (c.loop-at.at + 1) c.args.leaves.now)))) k.2
          (subst (λ x. HandsOver g.S.NodeSink.holds c.loop-at.sink (subtree_nodes c.args.layer (all_told (take c.count_lower-count.result x))) c.name_subtree.new.sink) b c.in_ok-after.ensures.taken),
    )

pub name_rows-returns-in_err-reserve-clause-begun : goal.name_rows-returns-in_err-reserve-clause-begun
name_rows-returns-in_err-reserve-clause-begun g t c =
    let p = err_from_is_err_and c.from_residual.result c.from_residual.ensures.1 in
    let k = c.loop-at.invariant.taken in
    rw p.1 (k.0, nodes_between (subtree_nodes c.args.layer) c.args.layer (all_told (drop c.loop-at.at c.args.leaves.now)), sym k.1, k.2)

pub name_subtree-returns-in_err-name-clause-begun : goal.name_subtree-returns-in_err-name-clause-begun
name_subtree-returns-in_err-name-clause-begun g t c =
    let p = err_from_is_err_and c.from_residual.result c.from_residual.ensures.1 in
    rw p.1 (subst (λ xs. HandsOverFirst g.S.NodeSink.holds c.args.sink.now xs c.name_node.new.sink) (nodes_subtree c.args.layer c.args.leaves.now c.is_empty.result c.if-layer-eq0.false c.if-is_empty.false c.is_empty.ensures) c.in_err-name.ensures.begun)

pub name_node-name_rows-requires : goal.name_node-name_rows-requires
name_node-name_rows-requires g t c κs within = (omega (arith, c.decreases), (within, subst (λ x. lower_run c.args.layer x ≡ []) (sym c.split_lower.ensures.rest) (upper_tops c.args.layer (all_told c.args.leaves.now))))

pub name_node-returns-in_err-rows-clause-refused : goal.name_node-returns-in_err-rows-clause-refused
name_node-returns-in_err-rows-clause-refused g t c =
    let p = err_from_is_err_and c.from_residual-in_err-rows.result c.from_residual-in_err-rows.ensures.1 in
    rw (p.1, p.2) (rows_refused g.S.NodeSink.holds g.S.NodeSink.refuses c.args.sink.now c.name_subtree.new.sink c.args.layer (all_told c.args.leaves.now) (all_told c.split_lower.result.0.now) (all_told c.split_lower.result.1.now) c.in_err-rows.field-0.0 c.split_lower.ensures.lower c.split_lower.ensures.rest c.in_ok-left.ensures.taken c.in_err-rows.ensures.refused)

pub name_node-returns-clause-name : goal.name_node-returns-clause-name
name_node-returns-clause-name g t c =
    subst (λ tree. IfOk c.hand_over.result (λ name. name ≡ block_name (spelling tree)))
    (node_made c.args.layer (all_told c.args.leaves.now) (all_told c.split_lower.result.0.now) (all_told c.split_lower.result.1.now) c.in_ok-left.left c.in_ok-rows.rows.items c.split_lower.ensures.lower c.split_lower.ensures.rest c.in_ok-left.ensures.name c.in_ok-rows.ensures.rows)
    c.hand_over.ensures.name

pub name_node-returns-clause-taken : goal.name_node-returns-clause-taken
name_node-returns-clause-taken g t c =
    on_ok_more c.hand_over.result
    (node_taken g.S.NodeSink.holds c.args.sink.now c.name_subtree.new.sink c.name_rows.new.sink c.hand_over.new.sink c.args.layer (all_told c.args.leaves.now) (all_told c.split_lower.result.0.now) (all_told c.split_lower.result.1.now)
    (node_map (map tree_of_row (map row_told c.in_ok-rows.rows.items)) c.in_ok-left.left) c.split_lower.ensures.lower c.split_lower.ensures.rest
    (node_made c.args.layer (all_told c.args.leaves.now) (all_told c.split_lower.result.0.now) (all_told c.split_lower.result.1.now) c.in_ok-left.left c.in_ok-rows.rows.items c.split_lower.ensures.lower c.split_lower.ensures.rest c.in_ok-left.ensures.name c.in_ok-rows.ensures.rows)
    c.in_ok-left.ensures.taken c.in_ok-rows.ensures.taken)
    c.hand_over.ensures.taken

pub name_node-returns-clause-refused : goal.name_node-returns-clause-refused
name_node-returns-clause-refused g t c =
    IfErr-weaker c.hand_over.result
    (RefusesOne g.S.NodeSink.holds g.S.NodeSink.refuses c.name_rows.new.sink (node_section (node_map (map tree_of_row (map row_told c.in_ok-rows.rows.items)) c.in_ok-left.left) ∷ []))
    (RefusesOne g.S.NodeSink.holds g.S.NodeSink.refuses c.args.sink.now (nodes c.args.layer (all_told c.args.leaves.now)))
    (λ e h. last_refused g.S.NodeSink.holds g.S.NodeSink.refuses c.args.sink.now c.name_subtree.new.sink c.name_rows.new.sink c.args.layer (all_told c.args.leaves.now) (all_told c.split_lower.result.0.now) (all_told c.split_lower.result.1.now)
    (node_map (map tree_of_row (map row_told c.in_ok-rows.rows.items)) c.in_ok-left.left) e c.split_lower.ensures.lower c.split_lower.ensures.rest
    (node_made c.args.layer (all_told c.args.leaves.now) (all_told c.split_lower.result.0.now) (all_told c.split_lower.result.1.now) c.in_ok-left.left c.in_ok-rows.rows.items c.split_lower.ensures.lower c.split_lower.ensures.rest c.in_ok-left.ensures.name c.in_ok-rows.ensures.rows)
    c.in_ok-left.ensures.taken c.in_ok-rows.ensures.taken h)
    c.hand_over.ensures.refused

pub name_rows-returns-in_err-after-clause-refused : goal.name_rows-returns-in_err-after-clause-refused
name_rows-returns-in_err-after-clause-refused g t c =
    let p = err_from_is_err_and c.from_residual-in_err-after.result c.from_residual-in_err-after.ensures.1 in
    let b = rest_whole (c.loop-at.at + 1) c.args.leaves.now in
    let count = c.count_lower-count.ensures.count ∙ ap (λ x. length (lower_run c.args.layer (all_told x))) b in
    let k = c.loop-at.invariant.taken in
    rw (p.1, p.2) (refuses_within g.S.NodeSink.holds g.S.NodeSink.refuses c.args.sink.now c.loop-at.sink k.0 (subtree_nodes c.args.layer (all_told (take c.count_lower-count.result (drop (c.loop-at.at + 1) c.args.leaves.now)))) (nodes_between (subtree_nodes c.args.layer) c.args.layer (all_told (drop (c.loop-at.at + (1 + c.count_lower-count.result)) c.args.leaves.now))) (nodes_between (subtree_nodes c.args.layer) c.args.layer (all_told c.args.leaves.now)) c.in_err-after.field-0.0 k.2
    (nodes_here (subtree_nodes c.args.layer) c.args.layer c.loop-at.at c.count_lower-count.result c.args.leaves.now c.index-leaves-at.result k.0 (nodes_between (subtree_nodes c.args.layer) c.args.layer (all_told c.args.leaves.now)) (omega arith) (sym c.index-leaves-at.is) count c.loop-at.invariant.tops k.1)
    (subst (λ x. RefusesOne g.S.NodeSink.holds g.S.NodeSink.refuses c.loop-at.sink (subtree_nodes c.args.layer (all_told (take c.count_lower-count.result x))) c.in_err-after.field-0.0) b c.in_err-after.ensures.refused))

pub name_rows-loop-at-preserved : goal.name_rows-loop-at-preserved
name_rows-loop-at-preserved g t c =
    let b = rest_whole (c.loop-at.at + 1) c.args.leaves.now in
    let count = c.count_lower-count.ensures.count ∙ ap (λ x. length (lower_run c.args.layer (all_told x))) b in
    let k = c.loop-at.invariant.taken in
    record {
      bound = bound_next c.loop-at.at c.count_lower-count.result c.args.leaves.now (omega arith) c.count_lower-count.ensures.bound;
      rows = ap (λ rs. map tree_of_row (map row_told rs) ++ entry_trees (subtree c.args.layer) c.args.layer c.index-leaves-at.result.key.now (all_told (drop (c.loop-at.at + (1 + c.count_lower-count.result)) c.args.leaves.now))) (c.push_reserved.ensures.items ∙ ap (λ rs. rs ++ (c.in_ok-row.row ∷ [])) c.in_ok-reserve.ensures.items)
          ∙ rows_next (subtree c.args.layer) c.args.layer c.loop-at.at c.count_lower-count.result c.args.leaves.now c.index-leaves-at.result c.loop-at.rows.items c.in_ok-row.row c.loop-at.previous.now c.in_ok-after.after (entry_trees (subtree c.args.layer) c.args.layer [] (all_told c.args.leaves.now))
          (omega arith) (sym c.index-leaves-at.is) count c.loop-at.invariant.tops c.in_ok-row.ensures (c.in_ok-after.ensures.name ∙ ap (λ x. subtree c.args.layer (all_told (take c.count_lower-count.result x))) b) c.loop-at.invariant.rows;
      tops = tops_next c.args.layer c.loop-at.at c.count_lower-count.result c.args.leaves.now count;
      taken = (
        k.0 ++ subtree_nodes c.args.layer (all_told (take c.count_lower-count.result (drop (c.loop-at.at + 1) c.args.leaves.now))),
        append_assoc k.0 (subtree_nodes c.args.layer (all_told (take c.count_lower-count.result (drop (c.loop-at.at + 1) c.args.leaves.now)))) (nodes_between (subtree_nodes c.args.layer) c.args.layer (all_told (drop (c.loop-at.at + (1 + c.count_lower-count.result)) c.args.leaves.now)))
            ∙ nodes_here (subtree_nodes c.args.layer) c.args.layer c.loop-at.at c.count_lower-count.result c.args.leaves.now c.index-leaves-at.result k.0 (nodes_between (subtree_nodes c.args.layer) c.args.layer (all_told c.args.leaves.now)) (omega arith) (sym c.index-leaves-at.is) count c.loop-at.invariant.tops k.1,
        takes_then g.S.NodeSink.holds c.args.sink.now c.loop-at.sink c.name_subtree.new.sink k.0 (subtree_nodes c.args.layer (all_told (take c.count_lower-count.result (drop (c.loop-at.at + 1) c.args.leaves.now)))) k.2
            (subst (λ x. HandsOver g.S.NodeSink.holds c.loop-at.sink (subtree_nodes c.args.layer (all_told (take c.count_lower-count.result x))) c.name_subtree.new.sink) b c.in_ok-after.ensures.taken),
      );
    }

pub name_subtree-returns-then-layer-eq0-clause-name : goal.name_subtree-returns-then-layer-eq0-clause-name
name_subtree-returns-then-layer-eq0-clause-name g t c = elim c.then-layer-eq0.branch [
  | name_subtree-then-layer-eq0-via-then-layer-eq0 w ↦ none_at_zero c.args.layer (all_told c.args.leaves.now) w.if-layer-eq0.true
  | name_subtree-then-layer-eq0-via-else-layer-eq0+then-is_empty w ↦ none_over_none c.args.layer c.args.leaves.now w.is_empty.result w.if-is_empty.true w.is_empty.ensures
]

pub name_subtree-returns-then-layer-eq0-clause-taken : goal.name_subtree-returns-then-layer-eq0-clause-taken
name_subtree-returns-then-layer-eq0-clause-taken g t c = takes_no_nodes g.S.NodeSink.holds c.args.sink.now (subtree_nodes c.args.layer (all_told c.args.leaves.now)) (elim c.then-layer-eq0.branch [
  | name_subtree-then-layer-eq0-via-then-layer-eq0 w ↦ no_nodes_at_zero c.args.layer (all_told c.args.leaves.now) w.if-layer-eq0.true
  | name_subtree-then-layer-eq0-via-else-layer-eq0+then-is_empty w ↦ no_nodes_over_none c.args.layer c.args.leaves.now w.is_empty.result w.if-is_empty.true w.is_empty.ensures
])

pub name_subtree-returns-in_err-name-clause-refused : goal.name_subtree-returns-in_err-name-clause-refused
name_subtree-returns-in_err-name-clause-refused g t c =
    let p = err_from_is_err_and c.from_residual.result c.from_residual.ensures.1 in
    rw (p.1, p.2) (subst (λ xs. RefusesOne g.S.NodeSink.holds g.S.NodeSink.refuses c.args.sink.now xs c.in_err-name.field-0.0) (nodes_subtree c.args.layer c.args.leaves.now c.is_empty.result c.if-layer-eq0.false c.if-is_empty.false c.is_empty.ensures) c.in_err-name.ensures.refused)

pub name_subtree-returns-clause-name : goal.name_subtree-returns-clause-name
name_subtree-returns-clause-name g t c = some_subtree c.args.layer c.args.leaves.now c.is_empty.result c.in_ok-name.name c.if-layer-eq0.false c.if-is_empty.false c.is_empty.ensures c.in_ok-name.ensures.name

pub name_subtree-returns-clause-taken : goal.name_subtree-returns-clause-taken
name_subtree-returns-clause-taken g t c = subst (λ xs. HandsOver g.S.NodeSink.holds c.args.sink.now xs c.name_node.new.sink) (nodes_subtree c.args.layer c.args.leaves.now c.is_empty.result c.if-layer-eq0.false c.if-is_empty.false c.is_empty.ensures) c.in_ok-name.ensures.taken
