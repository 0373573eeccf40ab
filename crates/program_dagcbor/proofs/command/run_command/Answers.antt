use Rattle.std.proofs.Common.{subst, IfSome}
use Rattle.program_shared.specs.declared.fault.ToolError.{ToolError}
use Rattle.program_dagcbor.specs.Answers.{AnswersAll, AnswersSome}
use Rattle.program_dagcbor.proofs.Words.{same_command, ended_well, ended_badly}
use Rattle.program_dagcbor.proofs.command.run_command.Goals as goal

pub returns-clause-answered : goal.returns-clause-answered
returns-clause-answered g c d is well = subst
    (λ command. IfSome (g.R.Read.remaining c.args.input.now) (λ bytes. AnswersAll command bytes (g.R.Read.remaining c.run_lines-ended.new.reader) (g.W.Write.contents c.args.output.now) (g.W.Write.contents c.run_lines-ended.new.writer)))
    (same_command _ _ _ c.in-Some.ensures is)
    (ended_well _ _ _ _ c.run_lines-ended.result _ c.status_of.ensures well c.run_lines-ended.ensures)

pub returns-clause-broken : goal.returns-clause-broken
returns-clause-broken g c d is badly = subst
    (λ command. IfSome (g.R.Read.remaining c.args.input.now) (λ bytes. (e : ToolError) × AnswersSome command e bytes (g.R.Read.remaining c.run_lines-ended.new.reader) (g.W.Write.contents c.args.output.now) (g.W.Write.contents c.run_lines-ended.new.writer)))
    (same_command _ _ _ c.in-Some.ensures is)
    (ended_badly _ _ _ _ c.run_lines-ended.result _ c.status_of.ensures badly c.run_lines-ended.ensures)
