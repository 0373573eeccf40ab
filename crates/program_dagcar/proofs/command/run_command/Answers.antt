use Rattle.std.proofs.Common.{subst, ap, sym, ◌∙◌}
use Rattle.program_dagcar.specs.Answers.{RunsCommand, IsQuiet}
use Rattle.program_parts.proofs.Known.{if_some}
use Rattle.program_dagcar.proofs.Running.{same_command}
use Rattle.program_dagcar.proofs.command.run_command.Goals as goal

pub returns-clause-answered : goal.returns-clause-answered
returns-clause-answered g c d is = if_some (g.R.Read.remaining c.args.input.now) c.run-ended.ensures.runs (λ b k. (
  c.run-ended.result,
  g.V.Write.contents c.run-ended.new.errors,
  c.status_of.ensures.status,
  subst (λ text. RunsCommand d text b (g.W.Write.contents c.args.output.now) (g.V.Write.contents c.args.errors.now) c.run-ended.result (g.W.Write.contents c.run-ended.new.output) (g.V.Write.contents c.run-ended.new.errors)) c.text_of.ensures
      (subst (λ command. RunsCommand command c.text_of.result.now b (g.W.Write.contents c.args.output.now) (g.V.Write.contents c.args.errors.now) c.run-ended.result (g.W.Write.contents c.run-ended.new.output) (g.V.Write.contents c.run-ended.new.errors)) (same_command c.texts_tell_cids.ensures _ _ _ c.in-Some.ensures is) k),
  (λ n. ap g.V.Write.contents (c.status_of.ensures.quiet n)),
))

pub returns-clause-quiet : goal.returns-clause-quiet
returns-clause-quiet g c d is silent n = c.status_of.ensures.quiet n ∙ c.run-ended.ensures.quiet (subst IsQuiet (sym (same_command c.texts_tell_cids.ensures _ _ _ c.in-Some.ensures is)) silent)
