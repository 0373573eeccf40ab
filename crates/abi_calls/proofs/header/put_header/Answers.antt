use Rattle.std.proofs.Common.{refl}
use Rattle.abi_calls.proofs.HeaderRoots.{roots_put}
use Rattle.abi_calls.proofs.header.put_header.Goals as goal

pub returns-in-Ok : goal.returns-in-Ok
returns-in-Ok c =
    let k = c.in-Ok.ensures.header in
    roots_put _ c.in-Ok.block.now c.in-Ok.rest.now _ _ k.0 _ _ _ c.put_links.result k.2 k.1 c.put_links.ensures refl
