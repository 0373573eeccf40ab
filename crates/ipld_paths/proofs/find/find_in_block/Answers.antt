use Rattle.ipld_paths.proofs.find.find_in_block.Goals as goal

pub find_judged-requires : goal.find_judged-requires
find_judged-requires c = let k = c.in_ok-check_slice.ensures.kind in (k.0, k.1)
