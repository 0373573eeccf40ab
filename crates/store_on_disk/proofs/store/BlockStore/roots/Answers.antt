use Rattle.std.proofs.Common.{rules, arith}
use Rattle.sqlite_trees.specs.View.{IsClean}
use Rattle.sqlite_trees.specs.declared.error.StoreError.TheVariants as stored
use Rattle.store_on_disk.proofs.Keeping.{ready_ended, ready_failed, keyed_ended}
use Rattle.store_on_disk.proofs.Calls.{fails_never}
use Rattle.store_on_disk.proofs.store.BlockStore.roots.Goals as goal

pub invariant_of-self : goal.invariant_of-self
invariant_of-self g c = ready_ended g.S.Store c.self.inside.store c.list.new.store c.self.invariant c.in-Ok-Some.ensures.ends

pub invariant_of-self-in-Err : goal.invariant_of-self-in-Err
invariant_of-self-in-Err g c = ready_failed g.S.Store c.self.inside.store c.undo.new.store c.list.new.store c.self.invariant c.in-Err.ensures.ends c.undo.ensures.undone c.undo.ensures.quiet

pub returns-in-Ok-None-clause-refused : goal.returns-in-Ok-None-clause-refused
returns-in-Ok-None-clause-refused g c = fails_never g.S.Store ⊥ c.args.self.now c.disown.new.store stored.Broken c.disown.result c.disown.ensures.told (search rules) (λ clean.
    let mid : IsClean (g.S.Store.view c.list.new.store) = omega (arith, c.disown.ensures.quiet.clean) in
    let was : IsClean (g.S.Store.view c.self.inside.store) = omega (arith, c.disown.ensures.quiet.clean, c.list.ensures.ends.quiet.clean) in
    let on = keyed_ended g.S.Store c.self.inside.store c.list.new.store (g.met.S.Store.broken_if_shut c.self.inside.store) c.self.invariant c.in-Ok-None.ensures.ends mid in
    let roots = (c.self.invariant was).roots on.0 in
    (rw c.in-Ok-None.field-0-is at (c.in-Ok-None.ensures.ok mid)) roots.0 roots.1)
