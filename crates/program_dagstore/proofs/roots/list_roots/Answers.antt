use Rattle.std.proofs.Common.{◌∙◌}
use Rattle.std.proofs.lemmas.Result.{err_from_is_err_and}
use Rattle.program_dagstore.specs.Roots.{AreRootLines}
use Rattle.program_dagstore.proofs.Removing.{plain_lines}
use Rattle.program_parts.proofs.Saying.{text_breaks}
use Rattle.program_dagstore.proofs.roots.list_roots.Goals as goal

pub returns-in_err-well-clause-says : goal.returns-in_err-well-clause-says
returns-in_err-well-clause-says g c =
    let p = err_from_is_err_and c.from_residual-in_err-well.result c.from_residual-in_err-well.ensures.1 in
    rw (p.1, p.2) (text_breaks (AreRootLines (g.S.Store.view c.args.store.now) (g.S.Store.view c.roots.new.self)) c.in_ok-lines.lines.items _ _ c.in_err-well.field-0.0 (c.in_ok-names.names.items, c.in_ok-names.ensures.ok, (rw c.deref.ensures.value at c.in_ok-lines.ensures) ∙ plain_lines c.in_ok-names.names.items) c.in_err-well.ensures)
