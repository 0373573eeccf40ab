use Rattle.std.proofs.Common.{arith, sym, subst}
use Rattle.sqlite_trees.specs.View.{IsClean}
use Rattle.store_on_disk.specs.Leaving.{LeavesAsListed}
use Rattle.store_on_disk.specs.Opened.{IsOpened}
use Rattle.store_on_disk.proofs.Opening.{ready_checked, is_opened}
use Rattle.store_on_disk.proofs.Leaving.{leaves_opened, is_spared}
use Rattle.store_on_disk.proofs.store.BlockStore.over.Goals as goal

pub of-requires : goal.of-requires
of-requires g c clean =
    let rolled : IsClean (g.S.Store.view c.rollback.new.self) = omega (arith, c.in-Ok-Ok.ensures.kept.clean) in
    let checked = (rw c.in-Ok-Ok.field-0-is at (c.in-Ok-Ok.ensures.ok clean)) in
    ready_checked (g.S.Store.view c.args.store) _ rolled c.rollback.ensures.undone checked.was_sound (g.met.S.Store.broken_if_shut c.rollback.new.self) (g.met.S.Store.unaltered c.rollback.new.self) _ checked

pub returns-in-Ok-Ok-clause-ok : goal.returns-in-Ok-Ok-clause-ok
returns-in-Ok-Ok-clause-ok g c = subst (λ s. IsClean (g.S.Store.view s) → IsOpened (g.S.Store.view c.args.store) (g.S.Store.view s)) (sym c.of.ensures) (λ clean.
    let rolled : IsClean (g.S.Store.view c.rollback.new.self) = omega (arith, c.in-Ok-Ok.ensures.kept.clean) in
    let checked = (rw c.in-Ok-Ok.field-0-is at (c.in-Ok-Ok.ensures.ok clean)) in
    is_opened (g.S.Store.view c.args.store) _ rolled c.rollback.ensures.undone checked.was_sound (g.met.S.Store.broken_if_shut c.rollback.new.self) (g.met.S.Store.unaltered c.rollback.new.self) (g.S.Store.view c.check.new.store) (g.met.S.Store.broken_if_shut c.check.new.store) checked)

pub returns-in-Ok-Ok-clause-leaves : goal.returns-in-Ok-Ok-clause-leaves
returns-in-Ok-Ok-clause-leaves g c = subst (LeavesAsListed g.S.Store c.args.store) (sym c.of.ensures)
    (leaves_opened g.S.Store c.args.store c.check.new.store (g.met.S.Store.settled c.check.new.store) (λ clean. omega (arith, c.rollback.ensures.quiet.clean, c.check.ensures.kept.clean))
    (λ clean.
    let rolled : IsClean (g.S.Store.view c.rollback.new.self) = omega (arith, c.in-Ok-Ok.ensures.kept.clean) in
    let checked = (rw c.in-Ok-Ok.field-0-is at (c.in-Ok-Ok.ensures.ok clean)) in
    is_opened (g.S.Store.view c.args.store) _ rolled c.rollback.ensures.undone checked.was_sound (g.met.S.Store.broken_if_shut c.rollback.new.self) (g.met.S.Store.unaltered c.rollback.new.self) (g.S.Store.view c.check.new.store) (g.met.S.Store.broken_if_shut c.check.new.store) checked)
    (λ clean.
    let rolled : IsClean (g.S.Store.view c.rollback.new.self) = omega (arith, c.in-Ok-Ok.ensures.kept.clean) in
    let checked = (rw c.in-Ok-Ok.field-0-is at (c.in-Ok-Ok.ensures.ok clean)) in
    ready_checked (g.S.Store.view c.args.store) _ rolled c.rollback.ensures.undone checked.was_sound (g.met.S.Store.broken_if_shut c.rollback.new.self) (g.met.S.Store.unaltered c.rollback.new.self) _ checked))

pub returns-in-Ok-Err-clause-spared : goal.returns-in-Ok-Err-clause-spared
returns-in-Ok-Err-clause-spared g c = is_spared g.S.Store c.args.store c.rollback.new.self c.check.new.store c.rollback.ensures.undone c.rollback.ensures.quiet (λ clean. omega (arith, c.check.ensures.kept.clean)) c.check.ensures.crash
