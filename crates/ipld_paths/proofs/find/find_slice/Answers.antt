use Rattle.ipld_paths.proofs.Ends.{ends_before, item_or_none}
use Rattle.ipld_paths.proofs.find.find_slice.Goals as goal

pub returns-in-Some-clause-found : goal.returns-in-Some-clause-found
returns-in-Some-clause-found c = let k = c.in_ok-check_slice.ensures.kind in ends_before c.args.block.now c.follow.result.0.now c.in-Some.field-0.0.now _ _ _ c.follow.ensures.led c.in-Some.ensures.first k.0 k.1

pub returns-in-None-clause-found : goal.returns-in-None-clause-found
returns-in-None-clause-found c = let k = c.in_ok-check_slice.ensures.kind in item_or_none c.args.block.now c.follow.result.0.now _ _ c.item_in.result c.follow.ensures.led c.in-None.ensures.first c.item_in.ensures k.0 k.1
