use Rattle.program_dagcar_files.proofs.Apart.{merge_apart}
use Rattle.program_dagcar_files.proofs.laws.merge_is_no_command.Goals as goal

pub returns : goal.returns
returns c = merge_apart
