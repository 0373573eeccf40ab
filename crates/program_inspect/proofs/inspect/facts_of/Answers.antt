use Rattle.std.proofs.Common.{rules, refl}
use Rattle.program_inspect.proofs.Learning.{facts_are}
use Rattle.program_inspect.proofs.inspect.facts_of.Goals as goal

pub returns : goal.returns
returns c = facts_are c.args.counts _ c.args.front.now c.args.index c.args.roots.now c.args.missing.now c.version_of.ensures c.index_told.ensures c.in_ok-roots.ensures refl (search rules) refl refl c.in_ok-codecs.ensures c.in_ok-hashes.ensures (search rules)
