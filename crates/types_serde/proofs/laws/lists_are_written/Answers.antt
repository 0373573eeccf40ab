use Rattle.types_serde.proofs.Making.{lists_written}
use Rattle.types_serde.proofs.laws.lists_are_written.Goals as goal

pub returns : goal.returns
returns g c = lists_written g.T.Described.writes
