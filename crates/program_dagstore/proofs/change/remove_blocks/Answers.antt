use Rattle.std.proofs.Common.{codes}
use Rattle.program_dagstore.specs.Changes.{Removes}
use Rattle.program_dagstore.proofs.Removing.{taken_said}
use Rattle.program_dagstore.proofs.change.remove_blocks.Goals as goal

pub returns-in-Ok-clause-says : goal.returns-in-Ok-clause-says
returns-in-Ok-clause-says g c = taken_said g.S.Store (Removes g.S.Store c.args.names.now) (codes " no block") c.args.store.now c.take_out.new.store c.in-Ok.taken _ _ _ _ c.say_taken.result c.in-Ok.ensures.ok c.say_taken.ensures
