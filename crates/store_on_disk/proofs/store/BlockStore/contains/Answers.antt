use Rattle.std.proofs.Common.{rules, ◌≡◌, sym, subst, IsTrue, ◌↔◌}
use Rattle.ipld_tree.specs.Cid.{cid_bytes}
use Rattle.store_rows.specs.Rows.{name_tree, FindsName}
use Rattle.store_on_disk.specs.Stored.{ListsName}
use Rattle.store_on_disk.proofs.Keeping.{ready_ended, ready_failed, keyed_ended, found_listed}
use Rattle.store_on_disk.proofs.store.BlockStore.contains.Goals as goal

pub invariant_of-self : goal.invariant_of-self
invariant_of-self g c = ready_ended g.S.Store c.self.inside.store c.find.new.store c.self.invariant c.in-Ok.ensures.ends

pub invariant_of-self-in-Err : goal.invariant_of-self-in-Err
invariant_of-self-in-Err g c = ready_failed g.S.Store c.self.inside.store c.undo.new.store c.find.new.store c.self.invariant c.in-Err.ensures.ends c.undo.ensures.undone c.undo.ensures.quiet

pub returns-in-Ok-clause-found : goal.returns-in-Ok-clause-found
returns-in-Ok-clause-found g c clean =
    let old = g.S.Store.view c.self.inside.store in
    let keyed = keyed_ended g.S.Store c.self.inside.store c.find.new.store (g.met.S.Store.broken_if_shut c.self.inside.store) c.self.invariant c.in-Ok.ensures.ends clean in
    let form : c.deref.result.now ≡ cid_bytes c.args.name.now = search rules in
    let found = subst (λ n. FindsName (old.trees name_tree) n c.in-Ok.found) form (c.in-Ok.ensures.ok clean) in
    subst (λ s. IsTrue c.is_some.result ↔ ListsName (g.S.Store.view s) c.args.name.now) c.self.view_is
    (subst (λ b. IsTrue b ↔ ListsName old c.args.name.now) (sym c.is_some.ensures) (found_listed (old.trees name_tree) (cid_bytes c.args.name.now) c.in-Ok.found keyed.1.0 found))
