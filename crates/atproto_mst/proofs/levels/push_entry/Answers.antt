use Rattle.std.proofs.Common.{rules}
use Rattle.atproto_mst.proofs.Opening.{pushed}
use Rattle.atproto_mst.proofs.levels.push_entry.Goals as goal

pub returns-clause-pushed : goal.returns-clause-pushed
returns-clause-pushed c = pushed c.args.opened.now.items c.push_reserved.new.self.items record { entry = c.args.entry; after = c.args.after } (search rules)
