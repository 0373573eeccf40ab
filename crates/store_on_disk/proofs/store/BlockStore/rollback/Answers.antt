use Rattle.std.proofs.Common.{arith}
use Rattle.sqlite_trees.specs.View.{IsClean}
use Rattle.store_on_disk.proofs.Calls.{ready_rolled}
use Rattle.store_on_disk.proofs.store.BlockStore.rollback.Goals as goal

pub invariant_of-self : goal.invariant_of-self
invariant_of-self g c clean =
    let was : IsClean (g.S.Store.view c.self.inside.store) = omega (arith, c.rollback.ensures.quiet.clean) in
    ready_rolled _ _ clean c.rollback.ensures.undone (c.self.invariant was)
