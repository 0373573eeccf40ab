use Rattle.std.proofs.Common.{rules, arith, ◌≡◌, subst}
use Rattle.sqlite_trees.specs.View.{IsClean}
use Rattle.ipld_tree.specs.Cid.{cid_bytes}
use Rattle.store_rows.specs.Rows.{TakesOutName}
use Rattle.store_on_disk.specs.Stored.{IsTaken}
use Rattle.store_on_disk.proofs.Keeping.{ready_failed, keyed_ended}
use Rattle.store_on_disk.proofs.Calls.{ready_blocks, keyed_taken, is_taken}
use Rattle.store_on_disk.proofs.store.BlockStore.remove.Goals as goal

pub invariant_of-self : goal.invariant_of-self
invariant_of-self g c clean =
    let old = g.S.Store.view c.self.inside.store in
    let was : IsClean old = omega (arith, c.take.ensures.ends.quiet.clean) in
    let ready = c.self.invariant was in
    ready_blocks old _ (c.in-Ok.ensures.ends.frame clean) (λ o. keyed_taken old.trees _ _ c.in-Ok.taken (c.in-Ok.ensures.ok clean) (ready.keyed o)) ready

pub invariant_of-self-in-Err : goal.invariant_of-self-in-Err
invariant_of-self-in-Err g c = ready_failed g.S.Store c.self.inside.store c.undo.new.store c.take.new.store c.self.invariant c.in-Err.ensures.ends c.undo.ensures.undone c.undo.ensures.quiet

pub returns-in-Ok-clause-ok : goal.returns-in-Ok-clause-ok
returns-in-Ok-clause-ok g c clean =
    let old = g.S.Store.view c.self.inside.store in
    let keyed = keyed_ended g.S.Store c.self.inside.store c.take.new.store (g.met.S.Store.broken_if_shut c.self.inside.store) c.self.invariant c.in-Ok.ensures.ends clean in
    let form : c.deref.result.now ≡ cid_bytes c.args.name.now = search rules in
    let new = g.S.Store.view c.take.new.store in
    subst (λ s. IsTaken (g.S.Store.view s) new c.args.name.now c.in-Ok.taken) c.self.view_is
    (is_taken old new c.args.name.now c.in-Ok.taken (c.in-Ok.ensures.ends.frame clean) keyed.0 keyed.1 (subst (λ n. TakesOutName old.trees new.trees n c.in-Ok.taken) form (c.in-Ok.ensures.ok clean)))
