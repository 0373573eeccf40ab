use Rattle.program_dagcar_files.proofs.Apart.{commit_apart}
use Rattle.program_dagcar_files.proofs.laws.commit_words_are_no_command.Goals as goal

pub returns : goal.returns
returns c = commit_apart
