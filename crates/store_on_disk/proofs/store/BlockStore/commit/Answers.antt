use Rattle.std.proofs.Common.{arith, subst}
use Rattle.sqlite_trees.specs.View.{IsClean}
use Rattle.store_on_disk.specs.Leaving.{StillLeavesStore}
use Rattle.store_on_disk.proofs.Calls.{ready_committed}
use Rattle.store_on_disk.proofs.Leaving.{still_committed}
use Rattle.store_on_disk.proofs.store.BlockStore.commit.Goals as goal

pub invariant_of-self : goal.invariant_of-self
invariant_of-self g c clean =
    let was : IsClean (g.S.Store.view c.self.inside.store) = omega (arith, c.commit.ensures.clean) in
    ready_committed c.commit.result _ _ c.commit.ensures.ok c.commit.ensures.err clean (c.self.invariant was)

pub returns-clause-leaves : goal.returns-clause-leaves
returns-clause-leaves g c =
    let old = c.self.inside.store in
    subst (λ s. StillLeavesStore g.S.Store s c.commit.new.self) c.self.view_is
    (still_committed g.S.Store old c.commit.new.self (g.met.S.Store.broken_if_shut old) (g.met.S.Store.stays old) c.self.invariant (λ clean. omega (arith, c.commit.ensures.clean)) c.commit.ensures.crash)
