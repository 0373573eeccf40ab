use Rattle.std.proofs.Common.{arith, inl, inr, sym, subst}
use Rattle.sqlite_trees.specs.View.{IsClean}
use Rattle.store_on_disk.specs.Stored.{IsAddedTo}
use Rattle.store_on_disk.proofs.Leaving.{still_quiet, still_then}
use Rattle.store_on_disk.proofs.store.BlockStore.put_block.Goals as goal

pub returns-clause-crash : goal.returns-clause-crash
returns-clause-crash g c db h = elim (c.commit.ensures.crash db h) [
  | inl same ↦ inr (λ clean.
      let mid : IsClean (g.S.Store.view c.add_block.new.self) = omega (arith, c.commit.ensures.kept.clean) in
      subst (λ t. IsAddedTo (g.S.Store.view c.args.self.now).trees t c.args.name.now c.args.block.now) (sym same) (c.in_ok-add_block.ensures.ok.1 mid).trees)
  | inr was ↦ inl (c.add_block.ensures.quiet.outcomes db was)
]

pub returns-clause-leaves : goal.returns-clause-leaves
returns-clause-leaves g c =
    let mid = c.add_block.new.self in
    still_then g.S.Store c.args.self.now mid c.commit.new.self (λ clean. omega (arith, c.commit.ensures.kept.clean)) (still_quiet g.S.Store c.args.self.now mid c.add_block.ensures.quiet) c.commit.ensures.leaves
