use Rattle.std.proofs.Common.{arith}
use Rattle.sqlite_trees.specs.View.{IsClean}
use Rattle.store_on_disk.proofs.Marking.{roots_marked, marks_refused}
use Rattle.store_on_disk.proofs.store.BlockStore.mark_roots.Goals as goal

pub returns-clause-ok : goal.returns-clause-ok
returns-clause-ok g c =
    roots_marked c.mark.result (g.S.Store.view c.args.self.now) (g.S.Store.view c.check_roots.new.self) c.args.roots.now (IsClean (g.S.Store.view c.mark.new.self))
    (λ clean. let was : IsClean (g.S.Store.view c.check_roots.new.self) = omega (arith, c.mark.ensures.reads.quiet.clean) in (c.in_ok-check_roots.ensures.ok was, c.in_ok-check_roots.ensures.reads.same was)) c.mark.ensures.ok

pub returns-clause-refused : goal.returns-clause-refused
returns-clause-refused g c =
    marks_refused g.S.Store c.mark.result c.args.roots.now c.args.self.now c.check_roots.new.self c.mark.new.self c.check_roots.ensures.reads.quiet c.in_ok-check_roots.ensures.reads.same (λ clean. omega (arith, c.mark.ensures.reads.quiet.clean)) c.mark.ensures.refused
