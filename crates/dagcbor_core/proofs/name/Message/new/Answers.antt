use Rattle.dagcbor_core.proofs.Keeping.{kept_whole}
use Rattle.dagcbor_core.proofs.name.Message.new.Goals as goal

pub returns-clause-whole : goal.returns-clause-whole
returns-clause-whole c short = kept_whole c.new.ensures short
