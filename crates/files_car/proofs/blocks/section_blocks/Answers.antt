use Rattle.std.proofs.Common.{rules, length, ◌<◌}
use Rattle.files_car.proofs.Holding.{stored_nothing, none_taken, one_taken, stopped, fault_stops}
use Rattle.files_car.proofs.blocks.section_blocks.Goals as goal

pub loop-rest-init : goal.loop-rest-init
loop-rest-init c = none_taken _ _ (stored_nothing c.new-blocks.result c.new-blocks.ensures.empty)

pub returns-in-Err : goal.returns-in-Err
returns-in-Err c =
    let some : 0 < length c.loop-rest.rest.now = search rules in
    stopped _ c.loop-rest.rest.now _ _ c.loop-rest.invariant (fault_stops _ _ c.in-Err.ensures.0 c.in-Err.ensures.1 some)

pub loop-rest-preserved : goal.loop-rest-preserved
loop-rest-preserved c = one_taken _ c.loop-rest.rest.now _ _ _ _ c.loop-rest.invariant c.in-Ok.ensures c.in-Ok-put_block.ensures
