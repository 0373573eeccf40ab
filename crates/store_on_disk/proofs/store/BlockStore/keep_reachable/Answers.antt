use Rattle.std.proofs.Common.{arith, inl, inr, sym, subst}
use Rattle.sqlite_trees.specs.View.{IsClean}
use Rattle.store_rows.specs.Ends.{KeepsOthers, IsOfBlocks}
use Rattle.store_on_disk.specs.Collecting.{KeepsReachable}
use Rattle.store_on_disk.proofs.Sweeping.{keeps_reachable, beside_swept, collected}
use Rattle.store_on_disk.proofs.Adding.{quiet_then}
use Rattle.store_on_disk.proofs.Leaving.{still_quiet, still_then}
use Rattle.store_on_disk.proofs.store.BlockStore.keep_reachable.Goals as goal

pub returns-in_err-commit-clause-crash : goal.returns-in_err-commit-clause-crash
returns-in_err-commit-clause-crash g c db h = elim (c.commit.ensures.crash db h) [
  | inl same ↦ inr (λ clean.
      let swept : IsClean (g.S.Store.view c.sweep.new.self) = omega (arith, c.commit.ensures.kept.clean) in
      let marked : IsClean (g.S.Store.view c.mark_roots.new.self) = omega (arith, c.commit.ensures.kept.clean, c.sweep.ensures.quiet.clean) in
      subst (KeepsReachable (g.S.Store.view c.args.self.now) c.args.roots.now) (sym same)
      (keeps_reachable (g.S.Store.view c.args.self.now) (g.S.Store.view c.mark_roots.new.self) (g.S.Store.view c.sweep.new.self) c.args.roots.now c.in_ok-kept.kept c.in_ok-count.count (c.in_ok-kept.ensures.reads.same marked) (c.in_ok-kept.ensures.ok marked) (c.in_ok-count.ensures.ok swept)))
  | inr was ↦ inl (c.mark_roots.ensures.reads.quiet.outcomes db (c.sweep.ensures.quiet.outcomes db was))
]

pub returns-clause-ok : goal.returns-clause-ok
returns-clause-ok g c clean =
    let swept : IsClean (g.S.Store.view c.sweep.new.self) = omega (arith, c.commit.ensures.kept.clean) in
    let marked : IsClean (g.S.Store.view c.mark_roots.new.self) = omega (arith, c.commit.ensures.kept.clean, c.sweep.ensures.quiet.clean) in
    collected (g.S.Store.view c.args.self.now) (g.S.Store.view c.mark_roots.new.self) (g.S.Store.view c.sweep.new.self) c.args.roots.now c.in_ok-kept.kept c.in_ok-count.count (c.in_ok-kept.ensures.reads.same marked) (c.in_ok-kept.ensures.ok marked) (c.in_ok-count.ensures.ok swept)
    (g.S.Store.view c.commit.new.self) (c.in_ok-commit.ensures.ok clean)

pub returns-clause-crash : goal.returns-clause-crash
returns-clause-crash g c db h = elim (c.commit.ensures.crash db h) [
  | inl same ↦ inr (λ clean.
      let swept : IsClean (g.S.Store.view c.sweep.new.self) = omega (arith, c.commit.ensures.kept.clean) in
      let marked : IsClean (g.S.Store.view c.mark_roots.new.self) = omega (arith, c.commit.ensures.kept.clean, c.sweep.ensures.quiet.clean) in
      subst (KeepsReachable (g.S.Store.view c.args.self.now) c.args.roots.now) (sym same)
      (keeps_reachable (g.S.Store.view c.args.self.now) (g.S.Store.view c.mark_roots.new.self) (g.S.Store.view c.sweep.new.self) c.args.roots.now c.in_ok-kept.kept c.in_ok-count.count (c.in_ok-kept.ensures.reads.same marked) (c.in_ok-kept.ensures.ok marked) (c.in_ok-count.ensures.ok swept)))
  | inr was ↦ inl (c.mark_roots.ensures.reads.quiet.outcomes db (c.sweep.ensures.quiet.outcomes db was))
]

pub returns-in_err-commit-clause-beside : goal.returns-in_err-commit-clause-beside
returns-in_err-commit-clause-beside g c db h = elim (c.commit.ensures.crash db h) [
  | inl same ↦ inr (λ clean.
      let swept : IsClean (g.S.Store.view c.sweep.new.self) = omega (arith, c.commit.ensures.kept.clean) in
      let marked : IsClean (g.S.Store.view c.mark_roots.new.self) = omega (arith, c.commit.ensures.kept.clean, c.sweep.ensures.quiet.clean) in
      subst (KeepsOthers IsOfBlocks (g.S.Store.view c.args.self.now).trees) (sym same)
      (beside_swept (g.S.Store.view c.args.self.now) (g.S.Store.view c.mark_roots.new.self) (g.S.Store.view c.sweep.new.self) c.args.roots.now c.in_ok-kept.kept c.in_ok-count.count (c.in_ok-kept.ensures.reads.same marked) (c.in_ok-kept.ensures.ok marked) (c.in_ok-count.ensures.ok swept)))
  | inr was ↦ inl (c.mark_roots.ensures.reads.quiet.outcomes db (c.sweep.ensures.quiet.outcomes db was))
]

pub returns-clause-beside : goal.returns-clause-beside
returns-clause-beside g c db h = elim (c.commit.ensures.crash db h) [
  | inl same ↦ inr (λ clean.
      let swept : IsClean (g.S.Store.view c.sweep.new.self) = omega (arith, c.commit.ensures.kept.clean) in
      let marked : IsClean (g.S.Store.view c.mark_roots.new.self) = omega (arith, c.commit.ensures.kept.clean, c.sweep.ensures.quiet.clean) in
      subst (KeepsOthers IsOfBlocks (g.S.Store.view c.args.self.now).trees) (sym same)
      (beside_swept (g.S.Store.view c.args.self.now) (g.S.Store.view c.mark_roots.new.self) (g.S.Store.view c.sweep.new.self) c.args.roots.now c.in_ok-kept.kept c.in_ok-count.count (c.in_ok-kept.ensures.reads.same marked) (c.in_ok-kept.ensures.ok marked) (c.in_ok-count.ensures.ok swept)))
  | inr was ↦ inl (c.mark_roots.ensures.reads.quiet.outcomes db (c.sweep.ensures.quiet.outcomes db was))
]

pub returns-clause-leaves : goal.returns-clause-leaves
returns-clause-leaves g c =
    let swept = c.sweep.new.self in
    still_then g.S.Store c.args.self.now swept c.commit.new.self (λ clean. omega (arith, c.commit.ensures.kept.clean))
    (still_quiet g.S.Store c.args.self.now swept (quiet_then g.S.Store c.args.self.now c.mark_roots.new.self swept c.mark_roots.ensures.reads.quiet c.sweep.ensures.quiet)) c.commit.ensures.leaves

pub returns-in_err-commit-clause-leaves : goal.returns-in_err-commit-clause-leaves
returns-in_err-commit-clause-leaves g c =
    let swept = c.sweep.new.self in
    still_then g.S.Store c.args.self.now swept c.commit.new.self (λ clean. omega (arith, c.commit.ensures.kept.clean))
    (still_quiet g.S.Store c.args.self.now swept (quiet_then g.S.Store c.args.self.now c.mark_roots.new.self swept c.mark_roots.ensures.reads.quiet c.sweep.ensures.quiet)) c.commit.ensures.leaves
