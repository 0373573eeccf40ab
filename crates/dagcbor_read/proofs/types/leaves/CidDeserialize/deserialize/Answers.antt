use Rattle.dagcbor_read.proofs.LinkValues.{link_value}
use Rattle.dagcbor_read.proofs.types.leaves.CidDeserialize.deserialize.Goals as goal

pub returns-clause-value : goal.returns-clause-value
returns-clause-value g c = link_value _ _ _ c.deserialize_cid.ensures.link
