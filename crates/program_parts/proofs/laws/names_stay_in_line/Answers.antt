use Rattle.program_parts.proofs.NamesShown.{name_in_line}
use Rattle.program_parts.proofs.laws.names_stay_in_line.Goals as goal

pub returns : goal.returns
returns c = name_in_line
