use Rattle.std.proofs.Common.{rules, arith, ◌≡◌, ◌∙◌, sym, subst, true≢false, OnOk, IfErr}
use Rattle.sqlite_trees.specs.View.{IsClean}
use Rattle.ipld_tree.specs.Cid.{cid_bytes}
use Rattle.store_rows.specs.RootRows.{root_tree, AppendsRoot, IsRootTooLong}
use Rattle.store_on_disk.specs.Stored.{FailsByStore}
use Rattle.store_on_disk.specs.Roots.{KnowsRoots, IsRootAdded, RootRefused}
use Rattle.store_on_disk.proofs.Keeping.{ready_failed, undone_since}
use Rattle.store_on_disk.proofs.Calls.{fails_since}
use Rattle.store_on_disk.proofs.Rooting.{done_if_clean, on_ok, ready_roots, roots_added, none_known, known_added, is_root_added, is_known, root_not_added, root_failed}
use Rattle.store_on_disk.proofs.store.BlockStore.add_unknown.Goals as goal

pub invariant_of-self : goal.invariant_of-self
invariant_of-self g c clean =
    let old = g.S.Store.view c.self.inside.store in
    let new = g.S.Store.view c.append.new.store in
    let was : IsClean old = omega (arith, c.append.ensures.ends.quiet.clean) in
    let ready = c.self.invariant was in
    let form : c.deref.result.now ≡ cid_bytes c.args.name.now = search rules in
    let adds = subst (λ n. AppendsRoot (old.trees root_tree) (new.trees root_tree) n c.in-Ok.added) form (c.in-Ok.ensures.ok clean) in
    ready_roots old new (c.in-Ok.ensures.ends.frame clean) (λ o. roots_added (old.trees root_tree) (new.trees root_tree) c.args.name.now c.in-Ok.added c.write_bytes.ensures.valid adds (ready.roots o)) ready

pub invariant_of-self-in-Err : goal.invariant_of-self-in-Err
invariant_of-self-in-Err g c = ready_failed g.S.Store c.self.inside.store c.undo.new.store c.append.new.store c.self.invariant c.in-Err.ensures.ends c.undo.ensures.undone c.undo.ensures.quiet

pub returns-then-contains-clause-ok : goal.returns-then-contains-clause-ok
returns-then-contains-clause-ok g c clean = known_added (g.S.Store.view c.args.self.now) c.args.known.now c.args.name.now (c.requires.known clean) (c.contains.ensures.0 c.if-contains.true)

pub returns-in-Ok-clause-ok : goal.returns-in-Ok-clause-ok
returns-in-Ok-clause-ok g c =
    done_if_clean c.told.result _ _ (λ clean.
    let old = g.S.Store.view c.self.inside.store in
    let new = g.S.Store.view c.append.new.store in
    let known = subst (λ s. IsClean (g.S.Store.view s) → KnowsRoots (g.S.Store.view s) c.args.known.now) (sym c.self.view_is) c.requires.known in
    let was : IsClean old = omega (arith, c.append.ensures.ends.quiet.clean) in
    let form : c.deref.result.now ≡ cid_bytes c.args.name.now = search rules in
    let adds = subst (λ n. AppendsRoot (old.trees root_tree) (new.trees root_tree) n c.in-Ok.added) form (c.in-Ok.ensures.ok clean) in
    let none = none_known old c.args.known.now c.args.name.now c.write_bytes.ensures.valid (known was) (λ m. true≢false (sym (c.contains.ensures.1 m) ∙ c.if-contains.false)) in
    subst (λ s. OnOk c.told.result (IsRootAdded (g.S.Store.view s) new c.args.name.now)) c.self.view_is
    (is_root_added old new c.args.name.now c.in-Ok.added c.told.result (c.in-Ok.ensures.ends.frame clean) c.write_bytes.ensures.valid none adds c.told.ensures))

pub returns-in-Ok-clause-known : goal.returns-in-Ok-clause-known
returns-in-Ok-clause-known g c =
    done_if_clean c.told.result _ _ (λ clean.
    let old = g.S.Store.view c.self.inside.store in
    let new = g.S.Store.view c.append.new.store in
    let known = subst (λ s. IsClean (g.S.Store.view s) → KnowsRoots (g.S.Store.view s) c.args.known.now) (sym c.self.view_is) c.requires.known in
    let was : IsClean old = omega (arith, c.append.ensures.ends.quiet.clean) in
    let form : c.deref.result.now ≡ cid_bytes c.args.name.now = search rules in
    let adds = subst (λ n. AppendsRoot (old.trees root_tree) (new.trees root_tree) n c.in-Ok.added) form (c.in-Ok.ensures.ok clean) in
    is_known old new c.args.known.now c.add.new.self c.args.name.now c.in-Ok.added c.told.result (known was) (on_ok c.add.result _ c.if-is_err.ensures.value c.add.ensures) adds c.told.ensures)

pub returns-in-Ok-clause-refused : goal.returns-in-Ok-clause-refused
returns-in-Ok-clause-refused g c =
    let old = g.S.Store.view c.self.inside.store in
    let new = g.S.Store.view c.append.new.store in
    let known = subst (λ s. IsClean (g.S.Store.view s) → KnowsRoots (g.S.Store.view s) c.args.known.now) (sym c.self.view_is) c.requires.known in
    subst (λ s. IfErr c.told.result (RootRefused g.S.Store c.args.name.now s c.append.new.store)) c.self.view_is
    (root_not_added g.S.Store c.args.name.now c.self.inside.store c.append.new.store c.in-Ok.added c.told.result
    (λ clean.
    let was : IsClean old = omega (arith, c.append.ensures.ends.quiet.clean) in
    let form : c.deref.result.now ≡ cid_bytes c.args.name.now = search rules in
    let adds = subst (λ n. AppendsRoot (old.trees root_tree) (new.trees root_tree) n c.in-Ok.added) form (c.in-Ok.ensures.ok clean) in
    let none = none_known old c.args.known.now c.args.name.now c.write_bytes.ensures.valid (known was) (λ m. true≢false (sym (c.contains.ensures.1 m) ∙ c.if-contains.false)) in
    (adds, none, c.in-Ok.ensures.ends.frame clean)) c.told.ensures)

pub returns-in-Err-clause-refused : goal.returns-in-Err-clause-refused
returns-in-Err-clause-refused g c =
    let old = g.S.Store.view c.self.inside.store in
    let form : c.deref.result.now ≡ cid_bytes c.args.name.now = search rules in
    subst (λ x. RootRefused g.S.Store c.args.name.now x c.undo.new.store c.undo.result) c.self.view_is
    (root_failed g.S.Store c.args.name.now c.self.inside.store c.undo.new.store c.undo.result
    (subst (λ n. FailsByStore g.S.Store (IsRootTooLong old.reals n) c.self.inside.store c.undo.new.store c.undo.result) form
    (fails_since g.S.Store (IsRootTooLong old.reals c.deref.result.now) c.self.inside.store c.append.new.store c.undo.new.store c.in-Err.error c.undo.result c.undo.ensures.told c.undo.ensures.blame c.in-Err.ensures.ends.told c.undo.ensures.quiet.counts
    (λ clean. let mid : IsClean (g.S.Store.view c.append.new.store) = omega (arith, c.undo.ensures.quiet.clean) in (c.in-Err.ensures.ends.cause mid, undone_since _ _ _ clean (c.in-Err.ensures.ends.err mid) c.undo.ensures.undone)))))
