use Rattle.std.proofs.Common.{◌≡◌, false, IsSome}
use Rattle.sqlite_trees.specs.View.{IsClean, KeepsSchema}
use Rattle.sqlite_exec.specs.Calls.{OnlyReads}
use Rattle.sqlite_exec.specs.Loops.{left_of}
use Rattle.store_rows.specs.Ends.{Quiet}
use Rattle.store_rows.specs.RootRows.{root_tree}
use Rattle.store_rows.proofs.Rooting.{PassesTo}
use Rattle.store_rows.proofs.roots.find.Given as goal

abbrev pub invariant-rows : goal.invariant-rows
invariant-rows g l =
    let old = g.S.Store.view l.fn.store in
    let now = g.S.Store.view l.store in
    IsSome (now.cursors 0) × (IsClean now → OnlyReads old now) × Quiet g.S.Store l.fn.store l.store
    × (IsClean now → PassesTo (old.trees root_tree) (left_of now 0) l.name)
    × KeepsSchema old now
    × (IsClean now → old.is_broken ≡ false)
