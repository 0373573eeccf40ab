use Rattle.std.proofs.Common.{arith, inl, inr}
use Rattle.sqlite_trees.specs.View.{IsClean}
use Rattle.program_dagstore.proofs.Rooting.{adding_undone, adding_failed}
use Rattle.program_dagstore.proofs.roots.add_roots.Goals as goal

pub returns-in-Err-commit-clause-added : goal.returns-in-Err-commit-clause-added
returns-in-Err-commit-clause-added g c =
    adding_failed g.S.Store c.args.names.now c.args.store.now c.add_roots.new.self c.commit.new.self c.add_roots.ensures.quiet (λ clean. omega (arith, c.commit.ensures.kept.clean)) c.in-Ok.ensures.ok c.in-Err-commit.refusal c.in-Err-commit.ensures.refused

pub returns-in-Err-clause-added : goal.returns-in-Err-clause-added
returns-in-Err-clause-added g c =
    adding_undone g.S.Store c.args.names.now c.args.store.now c.add_roots.new.self c.rollback.new.self c.in-Err.refusal c.rollback.ensures.quiet c.rollback.ensures.blame c.rollback.ensures.undone c.in-Err.ensures.refused

pub returns-in-Err-commit-clause-crash : goal.returns-in-Err-commit-clause-crash
returns-in-Err-commit-clause-crash g c db h = elim (c.commit.ensures.crash db h) [
  | inl same ↦ inr (λ clean.
      let mid : IsClean (g.S.Store.view c.add_roots.new.self) = omega (arith, c.commit.ensures.kept.clean) in
      (g.S.Store.view c.add_roots.new.self, c.in-Ok.ensures.ok mid, same))
  | inr was ↦ inl (c.add_roots.ensures.quiet.outcomes db was)
]
