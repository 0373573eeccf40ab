use Rattle.store_rows.specs.Rows.{name_tree}
use Rattle.store_rows.proofs.Finding.{finds_first, none_from}
use Rattle.store_rows.proofs.entries.first_from.Goals as goal

pub returns-then-is_there-clause-ok : goal.returns-then-is_there-clause-ok
returns-then-is_there-clause-ok g c clean =
    let at = rw c.if-is_there.true at (c.in_ok-is_there.ensures.ok clean) in
    finds_first c.args.bound.now ((g.S.Store.view c.args.store.now).trees name_tree) at.1.0 c.seek_name.new.row c.name_in.result at.0 at.1.1 c.name_in.ensures

pub returns-else-is_there-clause-ok : goal.returns-else-is_there-clause-ok
returns-else-is_there-clause-ok g c clean =
    let none = rw c.if-is_there.false at (c.in_ok-is_there.ensures.ok clean) in
    none_from c.args.bound.now ((g.S.Store.view c.args.store.now).trees name_tree) none.1
