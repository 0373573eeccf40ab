use Rattle.program_dagcar_files.proofs.Same.{same_block}
use Rattle.program_dagcar_files.proofs.laws.index_gives_the_block.Goals as goal

pub returns : goal.returns
returns c = same_block
