use Rattle.std.proofs.Common.{ap, sym, ◌∙◌, Some, subst}
use Rattle.atproto_mst.specs.Keys.{Rise}
use Rattle.atproto_mst.specs.Entries.{entries}
use Rattle.atproto_mst.specs.Changes.{IsKeyAt, WouldBeKeyAt}
use Rattle.atproto_mst.proofs.Changing.{remove_at, record_at, no_record_at, none_removed}
use Rattle.atproto_mst.proofs.change.remove_entry.Goals as goal

stands : (c : goal.After-drop-remove) → Rise (entries c.args.all.now.items) → IsKeyAt c.args.key.now c.in-Ok.at (entries c.args.all.now.items)
stands c rise = subst (λ es. IsKeyAt c.args.key.now c.in-Ok.at (entries es)) c.deref.ensures.value
    (c.in-Ok.ensures.place (subst (λ es. Rise (entries es)) (sym c.deref.ensures.value) rise))

pub returns-in-Ok-clause-removed : goal.returns-in-Ok-clause-removed
returns-in-Ok-clause-removed c rise = ap entries c.remove.ensures.items ∙ remove_at c.args.key.now c.args.all.now.items c.in-Ok.at (stands c rise)

pub returns-in-Ok-clause-before : goal.returns-in-Ok-clause-before
returns-in-Ok-clause-before c rise =
    ap (λ e. Some e.value) c.remove.ensures.value ∙ sym (record_at c.args.key.now c.args.all.now.items c.in-Ok.at c.remove.result (stands c rise) rise)

pub returns-in-Err-clause-before : goal.returns-in-Err-clause-before
returns-in-Err-clause-before c rise =
    sym (no_record_at c.args.key.now (entries c.args.all.now.items) c.in-Err.field-0
    (subst (λ es. WouldBeKeyAt c.args.key.now c.in-Err.field-0 (entries es)) c.deref.ensures.value (c.in-Err.ensures.place (subst (λ es. Rise (entries es)) (sym c.deref.ensures.value) rise)))
    rise)

pub returns-in-Err-clause-removed : goal.returns-in-Err-clause-removed
returns-in-Err-clause-removed c rise = none_removed c.args.key.now (entries c.args.all.now.items) (sym (returns-in-Err-clause-before c rise))
