use Rattle.types_serde.proofs.Making.{leaves_written}
use Rattle.types_serde.proofs.laws.leaves_are_written.Goals as goal

pub returns : goal.returns
returns c = leaves_written
