use Rattle.ipld_paths.proofs.Ends.{item_begins, stopped_in}
use Rattle.ipld_paths.proofs.find.follow_slice.Goals as goal

pub unwrap-item-requires : goal.unwrap-item-requires
unwrap-item-requires c =
    let k = c.in_ok-check_slice.ensures.kind in
    item_begins c.args.block.now c.follow.result.0.now _ _ c.item_in.result c.follow.ensures.led c.item_in.ensures k.0 k.1

pub returns-clause-stops : goal.returns-clause-stops
returns-clause-stops c =
    let k = c.in_ok-check_slice.ensures.kind in
    stopped_in c.args.block.now c.follow.result.0.now c.args.path.now c.follow.result.1 c.item_in.result c.unwrap-item.result c.follow.ensures.led c.follow.ensures.following c.item_in.ensures c.unwrap-item.ensures k.0 k.1
