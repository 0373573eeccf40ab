use Rattle.std.proofs.Common.{None}
use Rattle.program_events.proofs.Keeping.{seen_put}
use Rattle.program_events.proofs.seen.forget.Goals as goal

pub returns : goal.returns
returns c = seen_put c.args.seen.now c.remove-before.new.self c.args.did.now None c.remove-before.ensures.updates
