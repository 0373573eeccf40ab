use Rattle.std.proofs.Common.{arith, inl, inr, sym, subst}
use Rattle.std.proofs.lemmas.Result.{err_from_is_err_and}
use Rattle.sqlite_trees.specs.View.{IsClean}
use Rattle.store_on_disk.proofs.Sweeping.{fails_swept}
use Rattle.program_dagstore.specs.Roots.{DropsRoots}
use Rattle.program_dagstore.proofs.Rooting.{drops_once, dropped}
use Rattle.program_dagstore.proofs.roots.drop_out.Goals as goal

pub returns-in_err-commit-clause-refused : goal.returns-in_err-commit-clause-refused
returns-in_err-commit-clause-refused g c =
    let p = err_from_is_err_and c.from_residual-in_err-commit.result c.from_residual-in_err-commit.ensures.1 in
    rw (p.1, p.2) (fails_swept g.S.Store c.args.store.now c.drop_each.new.store c.commit.new.self c.in_err-commit.field-0.0 c.drop_each.ensures.quiet (λ clean. omega (arith, c.commit.ensures.kept.clean))
    (λ clean. let w = c.in_ok-taken.ensures.ok clean in (w.committed, w.is_open, w.broken)) c.in_err-commit.ensures.refused)

pub returns-in_err-commit-clause-crash : goal.returns-in_err-commit-clause-crash
returns-in_err-commit-clause-crash g c db h = elim (c.commit.ensures.crash db h) [
  | inl same ↦ inr (λ clean.
      let mid : IsClean (g.S.Store.view c.drop_each.new.store) = omega (arith, c.commit.ensures.kept.clean) in
      drops_once c.args.names.now c.in-Ok.once.items (g.S.Store.view c.args.store.now).trees db c.in-Ok.ensures (subst (DropsRoots c.in-Ok.once.items (g.S.Store.view c.args.store.now).trees) (sym same) (rw c.deref.ensures.value at c.in_ok-taken.ensures.ok mid).trees))
  | inr was ↦ inl (c.drop_each.ensures.quiet.outcomes db was)
]

pub returns-clause-ok : goal.returns-clause-ok
returns-clause-ok g c clean =
    let mid : IsClean (g.S.Store.view c.drop_each.new.store) = omega (arith, c.commit.ensures.kept.clean) in (
      dropped (g.S.Store.view c.args.store.now) (g.S.Store.view c.drop_each.new.store) (g.S.Store.view c.commit.new.self) c.args.names.now c.in-Ok.once.items c.in-Ok.ensures (rw c.deref.ensures.value at c.in_ok-taken.ensures.ok mid) (c.in_ok-commit.ensures.ok clean),
      λ roots has. (c.in-Ok.once.items, c.in-Ok.ensures, (rw c.deref.ensures.value at c.in_ok-taken.ensures.splits mid) roots has),
    )

pub returns-clause-crash : goal.returns-clause-crash
returns-clause-crash g c db h = elim (c.commit.ensures.crash db h) [
  | inl same ↦ inr (λ clean.
      let mid : IsClean (g.S.Store.view c.drop_each.new.store) = omega (arith, c.commit.ensures.kept.clean) in
      drops_once c.args.names.now c.in-Ok.once.items (g.S.Store.view c.args.store.now).trees db c.in-Ok.ensures (subst (DropsRoots c.in-Ok.once.items (g.S.Store.view c.args.store.now).trees) (sym same) (rw c.deref.ensures.value at c.in_ok-taken.ensures.ok mid).trees))
  | inr was ↦ inl (c.drop_each.ensures.quiet.outcomes db was)
]
