use Rattle.program_parts.proofs.NamesShown.{names_apart}
use Rattle.program_parts.proofs.laws.names_stay_apart.Goals as goal

pub returns : goal.returns
returns c = names_apart
