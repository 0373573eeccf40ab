use Rattle.std.proofs.Common.{◌≡◌, inr, true, ap, rules, to_z-of_z}
use Rattle.sqlite_value.specs.declared.value.Value.TheVariants.{Blob}
use Rattle.sqlite_value.specs.Order.{column}
use Rattle.sqlite_trees.specs.View.{View}
use Rattle.store_rows.specs.Rows.{block_tree, name_tree}
use Rattle.store_rows.proofs.Numbers.{none_in, none_of}
use Rattle.store_rows.proofs.entries.take_row.Goals as goal

pub returns-else-found-clause-ok : goal.returns-else-found-clause-ok
returns-else-found-clause-ok g c clean =
    let rows = (g.S.Store.view c.args.store.now).trees block_tree in
    let same = c.in_ok-found.ensures.same clean in
    let finds = (let fits = c.ranges.id in simp to_z-of_z at (c.in_ok-found.ensures.ok clean)) in
    let other : c.in_ok-found.found ≡ true → column c.get.new.row 1 ≡ Blob c.args.name.now → ⊥ = λ t e. search rules in (
      ap (λ (v : View). v.trees name_tree) same,
      inr (
        none_of rows c.args.id c.args.name.now c.get.new.row c.in_ok-found.found finds other,
        none_in rows c.args.id c.args.name.now c.get.new.row c.in_ok-found.found finds other,
        ap (λ (v : View). v.trees block_tree) same,
      ),
    )
