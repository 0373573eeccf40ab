use Rattle.dagcbor_blocks.proofs.Keeping.{check_holds, not_checked}
use Rattle.dagcbor_blocks.proofs.blocks.check_depth.Goals as goal

pub returns-in-Ok : goal.returns-in-Ok
returns-in-Ok c = check_holds c.spelling_unique.ensures c.args.bytes.now _ c.requires c.in-Ok.ensures.links

pub returns-in-Err : goal.returns-in-Err
returns-in-Err c = not_checked c.args.bytes.now c.in-Err.error c.of_decoding.result c.in-Err.ensures.decoded c.of_decoding.ensures
