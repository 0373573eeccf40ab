use Rattle.std.proofs.Common.{rules, ◌≡◌, refl, sym, subst}
use Rattle.sqlite_trees.specs.Tree.{put_row}
use Rattle.sqlite_trees.specs.View.{IsStorableRow}
use Rattle.store_rows.specs.Ends.{IsOfRoots}
use Rattle.store_rows.specs.RootRows.{root_tree, root_row}
use Rattle.store_rows.proofs.Ending.{set_ends}
use Rattle.store_rows.proofs.roots.put.Goals as goal

pub returns-clause-ends : goal.returns-clause-ends
returns-clause-ends g c =
    let row : c.push-2.new.self ≡ root_row c.args.id c.args.name.now = search rules in
    set_ends g.S.Store IsOfRoots root_tree _ _ c.put.result c.args.store.now c.put.new.self (put_row c.push-2.new.self) refl
    (λ none all. none (subst (IsStorableRow ((g.S.Store.view c.args.store.now).reals root_tree)) (sym row) (all c.args.id)))
    c.put.ensures.ok c.put.ensures.frame c.put.ensures.err c.put.ensures.told c.put.ensures.cause c.put.ensures.schema c.put.ensures.quiet
