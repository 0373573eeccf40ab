use Rattle.std.proofs.Common.{[], ap}
use Rattle.dagcbor_items.specs.Walks.{forms}
use Rattle.dagcbor_items.proofs.walk.gather_links.Goals as goal

pub returns-clause-links : goal.returns-clause-links
returns-clause-links g c = let k = c.in_ok-walk_any.ensures.item in (k.0, k.1, k.2 [] (ap forms c.new-links.ensures.items))
