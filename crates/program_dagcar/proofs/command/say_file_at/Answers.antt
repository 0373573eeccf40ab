use Rattle.std.proofs.Common.{subst}
use Rattle.ipld_paths.specs.Paths.{segments}
use Rattle.program_parts.proofs.Known.{if_some}
use Rattle.program_dagcar.specs.Files.{SaysFileOf}
use Rattle.program_dagcar.proofs.command.say_file_at.Goals as goal

pub returns : goal.returns
returns g c = if_some (g.R.Read.remaining c.args.input.now) c.write_file.ensures (λ b h.
    subst (λ path. SaysFileOf c.args.root.now (segments path) b (g.W.Write.contents c.args.output.now) (g.V.Write.contents c.args.errors.now) c.write_file.result (g.W.Write.contents c.write_file.new.output) (g.V.Write.contents c.write_file.new.errors)) c.split_path.ensures.path h)
