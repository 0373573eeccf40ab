use Rattle.ipld_links.specs.Reaching.{stored_in}
use Rattle.program_dagstore.proofs.Gathering.{none_held, one_held}
use Rattle.program_dagstore.proofs.way.hold.Goals as goal

pub returns-in_default-clause-held : goal.returns-in_default-clause-held
returns-in_default-clause-held g c clean = none_held (g.S.Store.view c.args.store.now) c.args.name.now (stored_in c.args.held.now) ((rw c.in_default.is at c.in_ok-block.ensures.found) clean)

pub returns-in-Ok-clause-held : goal.returns-in-Ok-clause-held
returns-in-Ok-clause-held g c clean = one_held (g.S.Store.view c.args.store.now) c.args.name.now c.in-Some.block c.args.held.now c.insert.new.self ((rw c.in-Some.is at c.in_ok-block.ensures.found) clean) c.in-Ok.ensures.updates.0
