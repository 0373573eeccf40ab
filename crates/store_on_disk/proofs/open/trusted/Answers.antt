use Rattle.std.proofs.Common.{sym, subst}
use Rattle.store_on_disk.specs.Leaving.{LeavesAsListed}
use Rattle.store_on_disk.proofs.Trusting.{ready_fresh}
use Rattle.store_on_disk.proofs.Leaving.{leaves_open}
use Rattle.store_on_disk.proofs.open.trusted.Goals as goal

pub of-requires : goal.of-requires
of-requires g c clean = ready_fresh (g.S.Store.view c.args.store) (rw c.in-Some.is at c.version_of.ensures) (c.requires.fresh clean)

pub returns-then-version-clause-leaves : goal.returns-then-version-clause-leaves
returns-then-version-clause-leaves g c = subst (LeavesAsListed g.S.Store c.args.store) (sym c.of.ensures) (λ clean list.
    let fresh = c.requires.fresh clean in
    leaves_open g.S.Store c.args.store (g.met.S.Store.settled c.args.store) fresh.is_open (ready_fresh (g.S.Store.view c.args.store) (rw c.in-Some.is at c.version_of.ensures) fresh) (list clean))
