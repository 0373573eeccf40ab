use Rattle.dagcbor_write.proofs.Texts.{listed_moved}
use Rattle.dagcbor_write.proofs.types.texts.list_in_order.Goals as goal

pub returns : goal.returns
returns g c tree =
    listed_moved tree _ _ _ (c.in_ok-row.ensures tree) c.sort_unstable_by.ensures.permutation
