use Rattle.std.proofs.Common.{◌≡◌, ◌⊎◌, [], subst, ap, ◌∙◌}
use Rattle.atproto_mst.specs.Entries.{entries}
use Rattle.atproto_mst.specs.Nodes.{row_told}
use Rattle.atproto_mst.specs.Stops.{RowFault, last_entry_key}
use Rattle.atproto_mst.specs.Gathering.{key_after}
use Rattle.atproto_mst.specs.declared.error.MstError.TheVariants.{OutOfMemory}
use Rattle.atproto_mst.proofs.Refusals.{handed_on_err}
use Rattle.atproto_mst.proofs.read.add_row.Goals as goal

pub returns-in_err-key-clause-stopped : goal.returns-in_err-key-clause-stopped
returns-in_err-key-clause-stopped c =
    let before = last_entry_key [] (entries c.args.found.now.items) in
    handed_on_err (λ e. (e ≡ OutOfMemory) ⊎ RowFault (key_after c.args.previous c.args.found.now.items) before (row_told c.args.row.now) e) c.from_residual.result c.in_err-key.field-0.0 c.from_residual.ensures.1
    (subst (λ k. (c.in_err-key.field-0.0 ≡ OutOfMemory) ⊎ RowFault k before (row_told c.args.row.now) c.in_err-key.field-0.0) (c.key_of_last-before.ensures ∙ ap (key_after c.args.previous) c.deref.ensures.value) (c.in_err-key.ensures.stopped before))
