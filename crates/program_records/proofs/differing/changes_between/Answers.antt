use Rattle.std.proofs.Common.{inl, sym, subst}
use Rattle.program_parts.proofs.Known.{if_some}
use Rattle.program_records.specs.Repositories.{IsRepoFile}
use Rattle.program_records.proofs.Telling.{if_ok}
use Rattle.program_records.proofs.Reading.{records_rise}
use Rattle.program_records.proofs.differing.changes_between.Goals as goal

pub returns-in-Ok-Ok : goal.returns-in-Ok-Ok
returns-in-Ok-Ok g c = if_some (g.R.Read.remaining c.args.old.now) (rw c.in-Ok-Ok.field-0-is at c.in-Ok-Ok.ensures) (λ b k.
    let is : IsRepoFile b c.in-Ok-Ok.before.commit c.deref.result.now = subst (IsRepoFile b c.in-Ok-Ok.before.commit) (sym c.deref.ensures.value) k in
    if_some (g.S.Read.remaining c.args.new.now) (c.changes_to.ensures (records_rise b c.in-Ok-Ok.before.commit c.deref.result.now is)) (λ d h.
    if_ok c.changes_to.result h (λ p t. inl (c.in-Ok-Ok.before.commit, c.deref.result.now, is, t))))
