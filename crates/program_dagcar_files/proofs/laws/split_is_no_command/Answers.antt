use Rattle.program_dagcar_files.proofs.Apart.{split_apart}
use Rattle.program_dagcar_files.proofs.laws.split_is_no_command.Goals as goal

pub returns : goal.returns
returns c = split_apart
