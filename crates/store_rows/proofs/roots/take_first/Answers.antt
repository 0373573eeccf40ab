use Rattle.std.proofs.Common.{rules, arith, ◌≡◌, ap, ◌∙◌, to_z-of_z, SFits, w64}
use Rattle.sqlite_trees.specs.Tree.{Trees, without_rowid}
use Rattle.sqlite_trees.specs.View.{IsClean}
use Rattle.store_rows.specs.RootRows.{root_tree, root_row}
use Rattle.store_rows.proofs.Causes.{only_reads}
use Rattle.store_rows.proofs.Rooting.{found_among, shape_of}
use Rattle.store_rows.proofs.roots.take_first.Goals as goal

pub delete-requires : goal.delete-requires
delete-requires g c = record {
  table = λ mid.
      let old = g.S.Store.view c.args.store.now in
      let name = c.args.name.now in
      let was : IsClean old = omega (arith, c.find.ensures.ends.quiet.clean) in
      let there = found_among (old.trees root_tree) name c.in-Some.id (rw c.in-Some.is at (c.in_ok-id.ensures.ok mid)) in
      ap (λ f. f root_tree) c.in_ok-id.ensures.ends.schema.shape ∙ shape_of old (root_row c.in-Some.id name) (c.requires.roots was) (g.met.S.Store.ordered c.args.store.now (c.in_ok-id.ensures.ends.sound mid)) there;
}

pub returns-clause-ok : goal.returns-clause-ok
returns-clause-ok g c clean =
    let old = g.S.Store.view c.args.store.now in
    let found = g.S.Store.view c.find.new.store in
    let new = g.S.Store.view c.delete.new.store in
    let id = c.in-Some.id in
    let mid : IsClean found = omega (arith, c.delete.ensures.ends.quiet.clean) in
    let fits : SFits w64 c.in-Some.id = search rules in
    let left : new.trees root_tree ≡ without_rowid id (old.trees root_tree) = (simp to_z-of_z at (c.in_ok-delete.ensures.ok clean)) ∙ ap (λ (t : Trees). without_rowid id (t root_tree)) (only_reads old found (c.in_ok-id.ensures.ends.frame mid)).1 in
    (id, rw c.in-Some.is at (c.in_ok-id.ensures.ok mid), left)
