use Rattle.std.proofs.Common.{rules, arith, ◌≡◌, refl, ap, ◌∙◌, to_z-of_z, SFits, w64}
use Rattle.std.proofs.lemmas.Result.{err_from_is_err_and}
use Rattle.sqlite_trees.specs.Tree.{Trees, put_row}
use Rattle.sqlite_trees.specs.View.{IsClean}
use Rattle.store_rows.specs.RootRows.{root_tree, root_row}
use Rattle.store_rows.proofs.Causes.{only_reads, root_too_long_as}
use Rattle.store_rows.proofs.Ending.{as_writes, then_err}
use Rattle.store_rows.proofs.Rooting.{put_last}
use Rattle.store_rows.proofs.roots.append.Goals as goal

pub returns-in_err-put-clause-ends : goal.returns-in_err-put-clause-ends
returns-in_err-put-clause-ends g c =
    let p = err_from_is_err_and c.from_residual-in_err-put.result c.from_residual-in_err-put.ensures.1 in
    let freed = as_writes g.S.Store c.args.store.now c.free_number.new.store c.in_ok-id.ensures.ends in
    rw (p.1, p.2) (then_err g.S.Store c.args.store.now c.free_number.new.store c.put.new.store freed (root_too_long_as c.args.name.now (g.S.Store.view c.args.store.now) (g.S.Store.view c.free_number.new.store) freed.schema) c.in_err-put.ensures.ends)

pub returns-clause-ok : goal.returns-clause-ok
returns-clause-ok g c clean =
    let old = g.S.Store.view c.args.store.now in
    let freed = g.S.Store.view c.free_number.new.store in
    let id = c.in-Some.id in
    let row = root_row id c.args.name.now in
    let mid : IsClean freed = omega (arith, c.put.ensures.ends.quiet.clean) in
    let fits : SFits w64 c.in-Some.id = search rules in
    let put : (g.S.Store.view c.put.new.store).trees root_tree ≡ put_row row (freed.trees root_tree) = simp to_z-of_z at (c.in_ok-put.ensures.ok clean) in
    (id, put ∙ ap (λ (t : Trees). put_row row (t root_tree)) (only_reads old freed (c.in_ok-id.ensures.ends.frame mid)).1 ∙ put_last (old.trees root_tree) row id refl (rw c.in-Some.is at (c.in_ok-id.ensures.above mid)))
