use Rattle.std.proofs.Common.{inl, refl, sym, subst}
use Rattle.program_parts.proofs.Known.{if_some}
use Rattle.program_records.specs.Repositories.{IsRepoFile}
use Rattle.program_records.proofs.Reading.{records_rise}
use Rattle.program_records.proofs.differing.changes_to.Goals as goal

pub returns-in_ok-lines-in-Ok-Ok : goal.returns-in_ok-lines-in-Ok-Ok
returns-in_ok-lines-in-Ok-Ok g c = λ rise. if_some (g.S.Read.remaining c.args.new.now) (rw c.in-Ok-Ok.field-0-is at c.in-Ok-Ok.ensures) (λ b k.
    let is : IsRepoFile b c.in-Ok-Ok.after.commit c.deref.result.now = subst (IsRepoFile b c.in-Ok-Ok.after.commit) (sym c.deref.ensures.value) k in
    let w = c.in_ok-lines-in-Ok-Ok.ensures rise (records_rise b c.in-Ok-Ok.after.commit c.deref.result.now is) in
    inl (c.in-Ok-Ok.after.commit, c.deref.result.now, w.0, is, w.1, refl, w.2, c.new.ensures.items))
