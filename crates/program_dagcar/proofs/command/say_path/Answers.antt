use Rattle.std.proofs.Common.{subst}
use Rattle.ipld_paths.specs.Paths.{segments}
use Rattle.program_parts.specs.Lines.{SaysBoth}
use Rattle.program_parts.proofs.Known.{if_some}
use Rattle.program_parts.specs.Paths.{IsAnswerOfFile}
use Rattle.program_dagcar.proofs.command.say_path.Goals as goal

pub returns : goal.returns
returns g c = if_some (g.R.Read.remaining c.args.input.now) c.write_asked.ensures (λ b h.
    subst (λ path. SaysBoth (IsAnswerOfFile c.args.asked c.args.root.now (segments path) b) (g.W.Write.contents c.args.output.now) (g.V.Write.contents c.args.errors.now) c.write_asked.result (g.W.Write.contents c.write_asked.new.output) (g.V.Write.contents c.write_asked.new.errors)) c.split_path.ensures.path h)
