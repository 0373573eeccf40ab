use Rattle.std.proofs.Common.{◌≡◌, ◌-◌, suc, [], ◌∷◌, ◌++◌, map, Some, refl, sym, ap, ◌∙◌, subst, arith, inl, append_assoc}
use Rattle.std.specs.Prelude.{is_some, option_map}
use Rattle.std.proofs.lemmas.Result.{err_from_is_err_and}
use Rattle.atproto_mst.specs.Trees.{leaf_of, entry_tree, node_map}
use Rattle.atproto_mst.specs.Nodes.{tree_of_row, row_told}
use Rattle.atproto_events.specs.Pieces.{piece_of, pieces, lower_pieces, upper_pieces}
use Rattle.atproto_events.specs.Naming.{AreLower}
use Rattle.atproto_events.proofs.Building.{RowsGoOn, upper_tops, is_top, rows_begin, rows_next, rows_end, node_made, over_named, lone_named, node_named, some_pieces, no_pieces}
use Rattle.atproto_events.proofs.Hiding.{lower_are_lower, upper_lower, runs_whole, fault_more, met_subtree, all_or_alone, not_alone, memory_fault, placed_top, lower_at, whole_rest, first_lower}
use Rattle.atproto_events.proofs.root.+build.Goals as goal

-- ---- the pieces of a node

pub node_of-subtree_of-requires : goal.node_of-subtree_of-requires
node_of-subtree_of-requires t c =
    (omega (arith, c.decreases), subst (AreLower c.args.layer) (sym c.split_lower.ensures.lower) (lower_are_lower c.args.layer (pieces c.args.all.now)))

pub node_of-rows_of-requires : goal.node_of-rows_of-requires
node_of-rows_of-requires t c = (
  omega (arith, c.decreases),
  (
    subst (λ x. lower_pieces c.args.layer x ≡ []) (sym c.split_lower.ensures.rest) (upper_tops c.args.layer (pieces c.args.all.now)),
    subst (AreLower (suc c.args.layer)) (sym c.split_lower.ensures.rest) (upper_lower (suc c.args.layer) c.args.layer (pieces c.args.all.now) c.requires),
  ),
)

pub node_of-returns-clause-named : goal.node_of-returns-clause-named
node_of-returns-clause-named t c =
    over_named c.name_of_node.result c.args.layer (pieces c.args.all.now) (node_map (map tree_of_row (map row_told c.in_ok-rows.rows.items)) c.in_ok-left.left)
    (node_made c.args.layer (pieces c.args.all.now) (pieces c.split_lower.result.0.now) (pieces c.split_lower.result.1.now) c.in_ok-left.left (map tree_of_row (map row_told c.in_ok-rows.rows.items))
    c.split_lower.ensures.lower c.split_lower.ensures.rest c.in_ok-left.ensures.named c.in_ok-rows.ensures.named) c.name_of_node.ensures.named

pub node_of-returns-clause-refused : goal.node_of-returns-clause-refused
node_of-returns-clause-refused t c = memory_fault c.name_of_node.result c.args.layer (pieces c.args.all.now) c.name_of_node.ensures.refused

pub node_of-returns-in_err-left-clause-refused : goal.node_of-returns-in_err-left-clause-refused
node_of-returns-in_err-left-clause-refused t c =
    let p = err_from_is_err_and c.from_residual.result c.from_residual.ensures.1 in
    let all = pieces c.args.all.now in
    rw (p.1, p.2) (inl (fault_more [] (pieces c.split_lower.result.0.now) (upper_pieces c.args.layer all) all c.in_err-left.field-0.0
    (runs_whole c.args.layer all ∙ ap (λ x. x ++ upper_pieces c.args.layer all) (sym c.split_lower.ensures.lower)) c.in_err-left.ensures.refused))

pub node_of-returns-in_err-rows-clause-refused : goal.node_of-returns-in_err-rows-clause-refused
node_of-returns-in_err-rows-clause-refused t c =
    let p = err_from_is_err_and c.from_residual-in_err-rows.result c.from_residual-in_err-rows.ensures.1 in
    let all = pieces c.args.all.now in
    rw (p.1, p.2) (all_or_alone c.args.layer all (lower_pieces c.args.layer all) (pieces c.split_lower.result.1.now) c.in_err-rows.field-0.0 c.requires
    (runs_whole c.args.layer all ∙ ap (λ x. lower_pieces c.args.layer all ++ x) (sym c.split_lower.ensures.rest)) c.in_err-rows.ensures.refused)

-- ---- of a subtree

pub subtree_of-node_of-requires : goal.subtree_of-node_of-requires
subtree_of-node_of-requires t c =
    (omega (arith, c.decreases, c.if-layer-eq0.false), lower_at c.args.layer (c.args.layer - 1) (pieces c.args.all.now) (omega (arith, c.if-layer-eq0.false)) c.requires)

pub subtree_of-returns-in-Some-clause-named : goal.subtree_of-returns-in-Some-clause-named
subtree_of-returns-in-Some-clause-named t c = lone_named c.args.layer (c.args.layer - 1) (pieces c.args.all.now) c.in-Some.name (omega (arith, c.if-layer-eq0.false)) c.in-Some.ensures

pub subtree_of-returns-clause-named : goal.subtree_of-returns-clause-named
subtree_of-returns-clause-named t c =
    node_named c.args.layer (c.args.layer - 1) (pieces c.args.all.now) c.in_ok-name.name (omega (arith, c.if-layer-eq0.false))
    (some_pieces c.args.all.now c.is_empty.result c.if-is_empty.false c.is_empty.ensures) c.in_ok-name.ensures.named

pub subtree_of-returns-in_err-name-clause-refused : goal.subtree_of-returns-in_err-name-clause-refused
subtree_of-returns-in_err-name-clause-refused t c =
    let p = err_from_is_err_and c.from_residual.result c.from_residual.ensures.1 in
    rw (p.1, p.2) (not_alone (c.args.layer - 1) (pieces c.args.all.now) c.in_err-name.field-0.0 c.in_default.ensures c.in_err-name.ensures.refused)

-- ---- rows

pub rows_of-loop-top-init : goal.rows_of-loop-top-init
rows_of-loop-top-init t c = record { tops = c.requires.tops; passed = ([], refl); rows = subst (λ rs. RowsGoOn c.args.layer (pieces c.args.all.now) [] (pieces c.args.all.now) rs) (sym c.new-rows.ensures.items) (rows_begin c.args.layer (pieces c.args.all.now)) }

pub rows_of-subtree_of-requires : goal.rows_of-subtree_of-requires
rows_of-subtree_of-requires t c =
    (omega (arith, c.decreases), subst (AreLower c.args.layer) (sym c.split_lower.ensures.lower) (lower_are_lower c.args.layer (pieces c.in-Some.following.now)))

pub rows_of-loop-top-preserved : goal.rows_of-loop-top-preserved
rows_of-loop-top-preserved t c =
    let split = ap pieces c.in-Some.ensures.cases.0 in
    let top = piece_of c.in-Some.top.now in
    let following = pieces c.in-Some.following.now in
    let key = c.deref-previous.result.now in
    let all = pieces c.args.all.now in
    let below = pieces c.split_lower.result.0.now in
    let next = pieces c.split_lower.result.1.now in
    let done = c.loop-top.invariant.passed.0 in
    let parts = runs_whole c.args.layer following ∙ ap (λ x. x ++ upper_pieces c.args.layer following) (sym c.split_lower.ensures.lower) ∙ ap (λ x. below ++ x) (sym c.split_lower.ensures.rest) in
    record {
      tops = subst (λ x. lower_pieces c.args.layer x ≡ []) (sym c.split_lower.ensures.rest) (upper_tops c.args.layer following);
      passed = (
        (done ++ (top ∷ [])) ++ below,
        whole_rest all done top following below next (c.loop-top.invariant.passed.1 ∙ ap (λ x. done ++ x) split) parts ∙ sym (append_assoc (done ++ (top ∷ [])) below next),
      );
      rows = subst (λ rs. RowsGoOn c.args.layer all key next rs) (sym (c.push_reserved.ensures.items ∙ ap (λ rs. rs ++ (c.in_ok-row.row ∷ [])) c.in_ok-reserve.ensures.items))
          (rows_next c.args.layer all top following below next key c.loop-top.previous.now c.in_ok-after.after c.loop-top.rows.items c.in_ok-row.row
          (subst (λ x. lower_pieces c.args.layer x ≡ []) split c.loop-top.invariant.tops) (ap (option_map (λ k. k.items)) c.in-Some-key.is ∙ ap Some (sym c.deref-previous.ensures.value))
          c.split_lower.ensures.lower c.split_lower.ensures.rest c.in_ok-after.ensures.named
          (c.in_ok-row.ensures ∙ ap (λ k. entry_tree c.loop-top.previous.now (leaf_of (k, c.in-Some.top.now.cid)) c.in_ok-after.after) (c.deref.ensures.value ∙ sym c.deref-previous.ensures.value))
          (subst (λ x. RowsGoOn c.args.layer all c.loop-top.previous.now x c.loop-top.rows.items) split c.loop-top.invariant.rows));
    }

pub rows_of-returns-clause-named : goal.rows_of-returns-clause-named
rows_of-returns-clause-named t c =
    rows_end c.args.layer (pieces c.args.all.now) (pieces c.loop-top.rest.now) c.loop-top.previous.now c.loop-top.rows.items
    (no_pieces c.loop-top.rest.now (λ lt. let some = c.split_first.ensures.variant.1 lt in absurd (cc (some, ap is_some c.in_default.is)))) c.loop-top.invariant.rows

pub rows_of-returns-in_err-after-clause-refused : goal.rows_of-returns-in_err-after-clause-refused
rows_of-returns-in_err-after-clause-refused t c =
    let p = err_from_is_err_and c.from_residual-in_err-after.result c.from_residual-in_err-after.ensures.1 in
    let split = ap pieces c.in-Some.ensures.cases.0 in
    let top = piece_of c.in-Some.top.now in
    let following = pieces c.in-Some.following.now in
    let all = pieces c.args.all.now in
    let below = pieces c.split_lower.result.0.now in
    let done = c.loop-top.invariant.passed.0 in
    let parts = runs_whole c.args.layer following ∙ ap (λ x. x ++ upper_pieces c.args.layer following) (sym c.split_lower.ensures.lower) in
    rw (p.1, p.2) (inl (fault_more (done ++ (top ∷ [])) below (upper_pieces c.args.layer following) all c.in_err-after.field-0.0
    (whole_rest all done top following below (upper_pieces c.args.layer following) (c.loop-top.invariant.passed.1 ∙ ap (λ x. done ++ x) split) parts) c.in_err-after.ensures.refused))

pub rows_of-returns-in_default-key-clause-refused : goal.rows_of-returns-in_default-key-clause-refused
rows_of-returns-in_default-key-clause-refused t c =
    let split = ap pieces c.in-Some.ensures.cases.0 in
    let top = piece_of c.in-Some.top.now in
    let following = pieces c.in-Some.following.now in
    let all = pieces c.args.all.now in
    let done = c.loop-top.invariant.passed.0 in
    let whole = c.loop-top.invariant.passed.1 ∙ ap (λ x. done ++ x) split in
    let is = placed_top c.args.layer top following (is_top c.args.layer top following (subst (λ x. lower_pieces c.args.layer x ≡ []) split c.loop-top.invariant.tops))
    (first_lower (suc c.args.layer) all done top following c.requires.within whole) (ap (option_map (λ k. k.items)) c.in_default-key.is) in
    met_subtree c.args.layer all done following top.cid c.requires.within (whole ∙ ap (λ p. done ++ (p ∷ following)) is)
