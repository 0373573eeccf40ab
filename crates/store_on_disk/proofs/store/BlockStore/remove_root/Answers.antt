use Rattle.std.proofs.Common.{rules, arith, ◌≡◌, subst}
use Rattle.sqlite_trees.specs.View.{IsClean}
use Rattle.ipld_tree.specs.Cid.{cid_bytes}
use Rattle.store_rows.specs.RootRows.{root_tree, TakesRoot}
use Rattle.store_on_disk.specs.Roots.{IsRootTaken}
use Rattle.store_on_disk.proofs.Keeping.{ready_failed, keyed_ended}
use Rattle.store_on_disk.proofs.Rooting.{ready_roots, roots_taken, is_root_taken}
use Rattle.store_on_disk.proofs.store.BlockStore.remove_root.Goals as goal

pub invariant_of-self : goal.invariant_of-self
invariant_of-self g c clean =
    let old = g.S.Store.view c.self.inside.store in
    let new = g.S.Store.view c.take.new.store in
    let was : IsClean old = omega (arith, c.take.ensures.ends.quiet.clean) in
    let ready = c.self.invariant was in
    let form : c.deref.result.now ≡ cid_bytes c.args.name.now = search rules in
    let takes = subst (λ n. TakesRoot (old.trees root_tree) (new.trees root_tree) n c.in-Ok.taken) form (c.in-Ok.ensures.ok clean) in
    ready_roots old new (c.in-Ok.ensures.ends.frame clean) (λ o. roots_taken (old.trees root_tree) (new.trees root_tree) c.args.name.now c.in-Ok.taken c.write_bytes.ensures.valid takes (ready.roots o)) ready

pub invariant_of-self-in-Err : goal.invariant_of-self-in-Err
invariant_of-self-in-Err g c = ready_failed g.S.Store c.self.inside.store c.undo.new.store c.take.new.store c.self.invariant c.in-Err.ensures.ends c.undo.ensures.undone c.undo.ensures.quiet

pub returns-in-Ok-clause-ok : goal.returns-in-Ok-clause-ok
returns-in-Ok-clause-ok g c clean =
    let old = g.S.Store.view c.self.inside.store in
    let new = g.S.Store.view c.take.new.store in
    let keyed = keyed_ended g.S.Store c.self.inside.store c.take.new.store (g.met.S.Store.broken_if_shut c.self.inside.store) c.self.invariant c.in-Ok.ensures.ends clean in
    let form : c.deref.result.now ≡ cid_bytes c.args.name.now = search rules in
    let takes = subst (λ n. TakesRoot (old.trees root_tree) (new.trees root_tree) n c.in-Ok.taken) form (c.in-Ok.ensures.ok clean) in
    subst (λ s. IsRootTaken (g.S.Store.view s) new c.args.name.now c.in-Ok.taken) c.self.view_is
    (is_root_taken old new c.args.name.now c.in-Ok.taken (c.in-Ok.ensures.ends.frame clean) keyed.0 c.write_bytes.ensures.valid takes)
