use Rattle.std.proofs.Common.{refl}
use Rattle.program_inspect.proofs.Learning.{learns}
use Rattle.program_inspect.proofs.inspect.InspectingSectionSink.take.Goals as goal

pub returns-in-Ok : goal.returns-in-Ok
returns-in-Ok c = learns (c.args.section.now.cid, c.args.section.now.block.now) _ c.args.self.now _ c.count.result refl c.in-Ok.ensures.after c.count.ensures
