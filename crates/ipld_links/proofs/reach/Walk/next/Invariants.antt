use Rattle.ipld_tree.specs.Cid.{CidParts}
use Rattle.std.specs.Prelude.{◌≡◌}
use Rattle.ipld_links.specs.Reaching.{Stored, Walks}
use Rattle.ipld_links.proofs.reach.Walk.next.Given as goal

abbrev pub invariant-loop-name : goal.invariant-loop-name
invariant-loop-name l = ((stored : Stored) (root : CidParts) → Walks stored root l.fn.self → Walks stored root l.self)
    × ((l.self.seen ≡ l.fn.self.seen) × (l.self.found ≡ l.fn.self.found) × (l.self.lost ≡ l.fn.self.lost))

abbrev pub decreases-loop-name : goal.decreases-loop-name
decreases-loop-name l = goal.left-loop-name l
