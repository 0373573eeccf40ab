use Rattle.std.proofs.Common.{rules, arith, ◌≡◌, subst, OnOk, IfErr}
use Rattle.sqlite_trees.specs.View.{IsClean}
use Rattle.ipld_tree.specs.Cid.{cid_bytes}
use Rattle.store_rows.specs.Rows.{AddsBlockRow, IsTooLong}
use Rattle.store_on_disk.specs.Stored.{IsAdded, PutRefused, FailsByStore}
use Rattle.store_on_disk.proofs.Keeping.{ready_failed, keyed_ended, undone_since}
use Rattle.store_on_disk.proofs.Calls.{ready_blocks, keyed_added, is_added, not_added, fails_since, put_failed, added_if_clean}
use Rattle.store_on_disk.proofs.store.BlockStore.add_block.Goals as goal

pub invariant_of-self : goal.invariant_of-self
invariant_of-self g c clean =
    let old = g.S.Store.view c.self.inside.store in
    let was : IsClean old = omega (arith, c.add.ensures.ends.quiet.clean) in
    let ready = c.self.invariant was in
    let form : c.deref.result.now ≡ cid_bytes c.args.name.now = search rules in
    ready_blocks old _ (c.in-Ok.ensures.ends.frame clean) (λ o. keyed_added old.trees (g.S.Store.view c.add.new.store).trees c.deref.result.now c.args.block.now c.in-Ok.added (c.args.name.now, c.write_bytes.ensures.valid, form) (c.in-Ok.ensures.ok clean) (ready.keyed o)) ready

pub invariant_of-self-in-Err-add : goal.invariant_of-self-in-Err-add
invariant_of-self-in-Err-add g c = ready_failed g.S.Store c.self.inside.store c.undo.new.store c.add.new.store c.self.invariant c.in-Err-add.ensures.ends c.undo.ensures.undone c.undo.ensures.quiet

pub returns-in-Ok-clause-ok : goal.returns-in-Ok-clause-ok
returns-in-Ok-clause-ok g c =
    added_if_clean c.told.result _ _ _ (search rules) (λ clean.
    let old = g.S.Store.view c.self.inside.store in
    let keyed = keyed_ended g.S.Store c.self.inside.store c.add.new.store (g.met.S.Store.broken_if_shut c.self.inside.store) c.self.invariant c.in-Ok.ensures.ends clean in
    let form : c.deref.result.now ≡ cid_bytes c.args.name.now = search rules in
    let new = g.S.Store.view c.add.new.store in
    subst (λ s. OnOk c.told.result (IsAdded (g.S.Store.view s) new c.args.name.now c.args.block.now)) c.self.view_is
    (is_added old new c.args.name.now c.args.block.now c.in-Ok.added c.told.result (c.in-Ok.ensures.ends.frame clean) (c.in-Ok.ensures.ends.sound clean) keyed.0 keyed.1 (subst (λ n. AddsBlockRow old.trees new.trees n c.args.block.now c.in-Ok.added) form (c.in-Ok.ensures.ok clean)) c.told.ensures))

pub returns-in-Ok-clause-refused : goal.returns-in-Ok-clause-refused
returns-in-Ok-clause-refused g c =
    let old = g.S.Store.view c.self.inside.store in
    let new = g.S.Store.view c.add.new.store in
    let form : c.deref.result.now ≡ cid_bytes c.args.name.now = search rules in
    subst (λ s. IfErr c.told.result (PutRefused g.S.Store (c.args.name.now, c.args.block.now) s c.add.new.store)) c.self.view_is
    (not_added g.S.Store (c.args.name.now, c.args.block.now) c.self.inside.store c.add.new.store c.in-Ok.added c.told.result
    (λ clean. (subst (λ n. AddsBlockRow old.trees new.trees n c.args.block.now c.in-Ok.added) form (c.in-Ok.ensures.ok clean), (c.in-Ok.ensures.ends.frame clean).frame)) c.told.ensures)

pub returns-in-Err-add-clause-refused : goal.returns-in-Err-add-clause-refused
returns-in-Err-add-clause-refused g c =
    let old = g.S.Store.view c.self.inside.store in
    let form : c.deref.result.now ≡ cid_bytes c.args.name.now = search rules in
    subst (λ x. PutRefused g.S.Store (c.args.name.now, c.args.block.now) x c.undo.new.store c.undo.result) c.self.view_is
    (put_failed g.S.Store (c.args.name.now, c.args.block.now) c.self.inside.store c.undo.new.store c.undo.result
    (subst (λ n. FailsByStore g.S.Store (IsTooLong old.reals n c.args.block.now) c.self.inside.store c.undo.new.store c.undo.result) form
    (fails_since g.S.Store (IsTooLong old.reals c.deref.result.now c.args.block.now) c.self.inside.store c.add.new.store c.undo.new.store c.in-Err-add.error c.undo.result c.undo.ensures.told c.undo.ensures.blame c.in-Err-add.ensures.ends.told c.undo.ensures.quiet.counts
    (λ clean. let mid : IsClean (g.S.Store.view c.add.new.store) = omega (arith, c.undo.ensures.quiet.clean) in (c.in-Err-add.ensures.ends.cause mid, undone_since _ _ _ clean (c.in-Err-add.ensures.ends.err mid) c.undo.ensures.undone)))))
