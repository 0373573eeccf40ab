use Rattle.dagcbor_items.proofs.Leaves.{unsupported_refused}
use Rattle.dagcbor_items.proofs.leaf.read_simple.Goals as goal

pub returns-in-None-clause-leaf : goal.returns-in-None-clause-leaf
returns-in-None-clause-leaf g c =
    let told = c.unsupported.ensures in
    rw told.1 (unsupported_refused g.row.R-Error.Denot ⊥ 0 _ told.0 c.args.first told.2 c.requires.starts c.requires.major c.requires.definite c.in-None.ensures)
