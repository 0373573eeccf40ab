use Rattle.std.proofs.Common.{ℕ, refl, sym, option_map, Vec, Global}
use Rattle.store_on_disk.proofs.Marking.{gets_known, hides_got}
use Rattle.store_on_disk.proofs.store.BlockStore.get_known.Goals as goal

pub returns-in-Some-clause-refused : goal.returns-in-Some-clause-refused
returns-in-Some-clause-refused g c = λ clean. (
  (refl, hides_got c.in_ok-block.block (g.S.Store.view c.args.self.now) c.args.name.now c.in-Some.verdict (c.in_ok-block.ensures.found clean) c.in_ok-block.ensures.verified (c.in-Some.ensures (λ q. option_map (λ (b : Vec ℕ Global). b.items) c.in_ok-block.block) (sym c.as_deref.ensures.value))),
  c.in_ok-block.ensures.reads.same clean,
)

pub returns-in-None-clause-ok : goal.returns-in-None-clause-ok
returns-in-None-clause-ok g c clean =
    gets_known c.in_ok-block.block (g.S.Store.view c.args.self.now) c.args.name.now (c.in_ok-block.ensures.found clean) c.in_ok-block.ensures.verified (c.in-None.ensures (λ q. option_map (λ (b : Vec ℕ Global). b.items) c.in_ok-block.block) (sym c.as_deref.ensures.value))
