use Rattle.program_dagcar.proofs.Summing.{counted_more}
use Rattle.program_dagcar.proofs.summary.SummingTeller.tell.Goals as goal

pub returns-clause-said : goal.returns-clause-said
returns-clause-said c = (c.in_ok-well.ensures.said.0, c.in_ok-well.ensures.said.1, c.in_ok-well.ensures.said.2, c.new.ensures.items)

pub returns-clause-known : goal.returns-clause-known
returns-clause-known c = counted_more (c.args.section.now.cid, c.args.section.now.block.now) c.args.self.now _ c.in_ok-well.ensures.taken c.in_ok-well.ensures.counted
