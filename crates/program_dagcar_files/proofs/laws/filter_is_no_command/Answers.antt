use Rattle.program_dagcar_files.proofs.Apart.{filter_apart}
use Rattle.program_dagcar_files.proofs.laws.filter_is_no_command.Goals as goal

pub returns : goal.returns
returns c = filter_apart
