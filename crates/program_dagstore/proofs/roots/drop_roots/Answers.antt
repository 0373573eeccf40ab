use Rattle.std.proofs.Common.{codes}
use Rattle.program_dagstore.specs.Roots.{Drops}
use Rattle.program_dagstore.proofs.Removing.{taken_said}
use Rattle.program_dagstore.proofs.roots.drop_roots.Goals as goal

pub returns-in-Ok-clause-says : goal.returns-in-Ok-clause-says
returns-in-Ok-clause-says g c = taken_said g.S.Store (Drops g.S.Store c.args.names.now) (codes " no root") c.args.store.now c.drop_out.new.store c.in-Ok.taken _ _ _ _ c.say_taken.result c.in-Ok.ensures.ok c.say_taken.ensures
