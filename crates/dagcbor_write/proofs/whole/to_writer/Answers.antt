use Rattle.std.proofs.Common.{rules}
use Rattle.dagcbor_write.proofs.Spelling.{value_sent, front_before}
use Rattle.dagcbor_write.proofs.whole.to_writer.Goals as goal

pub returns-clause-value : goal.returns-clause-value
returns-clause-value g c = value_sent _ _ _ _ _ _ _ (search rules) (search rules) c.serialize-result.ensures.well_formed c.serialize-result.ensures.written

pub returns-clause-sent : goal.returns-clause-sent
returns-clause-sent g c = front_before _ _ _ _ _ _ _ (search rules) (search rules) c.serialize-result.ensures.written
