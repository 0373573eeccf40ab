use Rattle.std.proofs.Common.{arith, sym, subst}
use Rattle.sqlite_trees.specs.View.{IsClean}
use Rattle.store_on_disk.specs.Roots.{HasRoots}
use Rattle.program_dagstore.proofs.Leaving.{listed_lacking}
use Rattle.program_dagstore.proofs.lacking.lacking_roots.Goals as goal

pub returns-clause-lists : goal.returns-clause-lists
returns-clause-lists g c =
    listed_lacking c.lacking_of.result (g.S.Store.view c.args.store.now) (g.S.Store.view c.roots.new.self) c.deref.result.now (IsClean (g.S.Store.view c.lacking_of.new.store))
    (λ clean. let was : IsClean (g.S.Store.view c.roots.new.self) = omega (arith, c.lacking_of.ensures.reads.quiet.clean) in (subst (HasRoots (g.S.Store.view c.args.store.now)) (sym c.deref.ensures.value) (c.in_ok-names.ensures.ok was), c.in_ok-names.ensures.reads.same was)) c.lacking_of.ensures.left
