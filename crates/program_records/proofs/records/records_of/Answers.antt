use Rattle.std.proofs.Common.{inl, refl, sym, subst}
use Rattle.program_parts.proofs.Known.{if_some}
use Rattle.program_records.specs.Repositories.{IsRepoFile}
use Rattle.program_records.proofs.records.records_of.Goals as goal

pub returns-in_ok-lines-in-Ok-Ok : goal.returns-in_ok-lines-in-Ok-Ok
returns-in_ok-lines-in-Ok-Ok g c = if_some (g.R.Read.remaining c.args.input.now) (rw c.in-Ok-Ok.field-0-is at c.in-Ok-Ok.ensures) (λ b k.
    inl (c.in-Ok-Ok.repo.commit, c.deref.result.now, subst (IsRepoFile b c.in-Ok-Ok.repo.commit) (sym c.deref.ensures.value) k, refl, c.in_ok-lines-in-Ok-Ok.ensures, c.new.ensures.items))
