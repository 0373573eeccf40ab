use Rattle.std.proofs.Common.{rules, arith, ◌≡◌, subst, None, Some, Ok}
use Rattle.sqlite_trees.specs.View.{IsClean}
use Rattle.sqlite_trees.specs.declared.error.StoreError.TheVariants as stored
use Rattle.store_rows.specs.Rows.{name_tree, FindsFirst}
use Rattle.store_on_disk.specs.Stored.{GivesNextName, bound_after}
use Rattle.store_on_disk.proofs.Following.{next_none, next_some}
use Rattle.store_on_disk.proofs.Keeping.{ready_ended, ready_failed, keyed_ended}
use Rattle.store_on_disk.proofs.Calls.{fails_never}
use Rattle.store_on_disk.proofs.store.BlockStore.next_name.Goals as goal

pub invariant_of-self : goal.invariant_of-self
invariant_of-self g c = ready_ended g.S.Store c.self.inside.store c.first_from.new.store c.self.invariant c.in-Ok-None.ensures.ends

pub invariant_of-self-in-Ok-Some-Ok : goal.invariant_of-self-in-Ok-Some-Ok
invariant_of-self-in-Ok-Some-Ok g c = ready_ended g.S.Store c.self.inside.store c.first_from.new.store c.self.invariant c.in-Ok-Some-Ok.ensures.ends

pub invariant_of-self-in-Err : goal.invariant_of-self-in-Err
invariant_of-self-in-Err g c = ready_failed g.S.Store c.self.inside.store c.undo.new.store c.first_from.new.store c.self.invariant c.in-Err.ensures.ends c.undo.ensures.undone c.undo.ensures.quiet

pub returns-in-Ok-None-clause-next : goal.returns-in-Ok-None-clause-next
returns-in-Ok-None-clause-next g c clean =
    let old = g.S.Store.view c.self.inside.store in
    let bound : c.deref.result.now ≡ bound_after c.args.last = search rules in
    subst (λ s. GivesNextName (g.S.Store.view s) c.args.last None) c.self.view_is
    (next_none (old.trees name_tree) c.args.last (subst (λ b. FindsFirst (old.trees name_tree) b None) bound (rw c.in-Ok-None.field-0-is at (c.in-Ok-None.ensures.ok clean))))

pub returns-in-Ok-Some-Ok-clause-next : goal.returns-in-Ok-Some-Ok-clause-next
returns-in-Ok-Some-Ok-clause-next g c clean =
    let old = g.S.Store.view c.self.inside.store in
    let keyed = keyed_ended g.S.Store c.self.inside.store c.first_from.new.store (g.met.S.Store.broken_if_shut c.self.inside.store) c.self.invariant c.in-Ok-Some-Ok.ensures.ends clean in
    let bound : c.deref.result.now ≡ bound_after c.args.last = search rules in
    let found = subst (λ b. FindsFirst (old.trees name_tree) b (Some (Ok c.in-Ok-Some-Ok.name))) bound (rw (c.in-Ok-Some-Ok.field-0-is, c.in-Ok-Some-Ok.field-0-0-is) at (c.in-Ok-Some-Ok.ensures.ok clean)) in
    subst (λ s. GivesNextName (g.S.Store.view s) c.args.last (Some c.in-Ok-Some-Ok.name)) c.self.view_is (next_some (old.trees name_tree) c.args.last c.in-Ok-Some-Ok.name (found keyed.1.0))

pub returns-in-Ok-Some-Err-clause-refused : goal.returns-in-Ok-Some-Err-clause-refused
returns-in-Ok-Some-Err-clause-refused g c = fails_never g.S.Store ⊥ c.args.self.now c.disown.new.store stored.Broken c.disown.result c.disown.ensures.told (search rules) (λ clean.
    let mid : IsClean (g.S.Store.view c.first_from.new.store) = omega (arith, c.disown.ensures.quiet.clean) in
    (rw (c.in-Ok-Some-Err.field-0-is, c.in-Ok-Some-Err.field-0-0-is) at (c.in-Ok-Some-Err.ensures.ok mid)) (keyed_ended g.S.Store c.self.inside.store c.first_from.new.store (g.met.S.Store.broken_if_shut c.self.inside.store) c.self.invariant c.in-Ok-Some-Err.ensures.ends mid).1.0)
