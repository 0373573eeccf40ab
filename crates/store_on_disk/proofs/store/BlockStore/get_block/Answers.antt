use Rattle.std.proofs.Common.{rules, ◌≡◌, subst, IfOk, IfErr, option_map, Vec, ℕ, Global}
use Rattle.ipld_tree.specs.Cid.{cid_bytes}
use Rattle.store_rows.specs.Rows.{LooksUp}
use Rattle.store_on_disk.specs.Stored.{GetsSome, GetRefused}
use Rattle.store_on_disk.proofs.Keeping.{ready_ended, ready_failed, keyed_ended, same_read}
use Rattle.store_on_disk.proofs.Calls.{found_if_clean, gets_some, get_refused}
use Rattle.store_on_disk.proofs.store.BlockStore.get_block.Goals as goal

pub invariant_of-self : goal.invariant_of-self
invariant_of-self g c = ready_ended g.S.Store c.self.inside.store c.get.new.store c.self.invariant c.in-Ok.ensures.ends

pub invariant_of-self-in-Err : goal.invariant_of-self-in-Err
invariant_of-self-in-Err g c = ready_failed g.S.Store c.self.inside.store c.undo.new.store c.get.new.store c.self.invariant c.in-Err.ensures.ends c.undo.ensures.undone c.undo.ensures.quiet

pub returns-in-Ok-clause-found : goal.returns-in-Ok-clause-found
returns-in-Ok-clause-found g c =
    found_if_clean c.verified.result _ _ (λ clean.
    let old = g.S.Store.view c.self.inside.store in
    let keyed = keyed_ended g.S.Store c.self.inside.store c.get.new.store (g.met.S.Store.broken_if_shut c.self.inside.store) c.self.invariant c.in-Ok.ensures.ends clean in
    let form : c.deref.result.now ≡ cid_bytes c.args.name.now = search rules in
    let gets = subst (λ n. LooksUp old.trees n c.in-Ok.found) form (c.in-Ok.ensures.ok clean) in
    subst (λ s. IfOk c.verified.result (λ o. GetsSome (g.S.Store.view s) c.args.name.now (option_map (λ (b : Vec ℕ Global). b.items) o))) c.self.view_is
    (gets_some old c.args.name.now c.in-Ok.found c.verified.result keyed.1 gets c.verified.ensures))

pub returns-in-Ok-clause-refused : goal.returns-in-Ok-clause-refused
returns-in-Ok-clause-refused g c =
    subst (λ s. IfErr c.verified.result (GetRefused g.S.Store c.args.name.now s c.get.new.store)) c.self.view_is
    (get_refused g.S.Store c.args.name.now c.self.inside.store c.get.new.store c.in-Ok.found c.verified.result c.verified.ensures (λ clean.
    let old = g.S.Store.view c.self.inside.store in
    let keyed = keyed_ended g.S.Store c.self.inside.store c.get.new.store (g.met.S.Store.broken_if_shut c.self.inside.store) c.self.invariant c.in-Ok.ensures.ends clean in
    let form : c.deref.result.now ≡ cid_bytes c.args.name.now = search rules in
    (keyed.1, subst (λ n. LooksUp old.trees n c.in-Ok.found) form (c.in-Ok.ensures.ok clean), same_read old _ (c.in-Ok.ensures.ends.frame clean))))
