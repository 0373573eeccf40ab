use Rattle.std.proofs.Common.{sym, subst}
use Rattle.program_parts.proofs.Known.{if_some}
use Rattle.program_parts.proofs.Saying.{both_said}
use Rattle.program_records.specs.Commits.{OfFile, IsCommitSaid}
use Rattle.program_records.proofs.commit.write_commit.Goals as goal

pub returns-in-Ok : goal.returns-in-Ok
returns-in-Ok g c = if_some (g.R.Read.remaining c.args.input.now) c.in-Ok.ensures (λ b h.
    both_said (OfFile IsCommitSaid b) c.in-Ok.said.0.items c.deref.result.now c.in-Ok.said.1 _ _ c.say_both.result _ _ (subst (OfFile IsCommitSaid b c.in-Ok.said.1 c.in-Ok.said.0.items) (sym c.deref.ensures.value) h) c.say_both.ensures)
