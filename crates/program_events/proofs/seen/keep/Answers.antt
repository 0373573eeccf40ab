use Rattle.std.proofs.Common.{Some, string_bytes}
use Rattle.program_events.proofs.Keeping.{seen_put}
use Rattle.program_events.proofs.seen.keep.Goals as goal

pub returns-in-Ok : goal.returns-in-Ok
returns-in-Ok c = seen_put c.args.seen.now c.insert.new.self (string_bytes c.args.commit.did) (Some (record { root = c.args.commit.data; rev = c.args.commit.rev })) c.in-Ok.ensures.updates
