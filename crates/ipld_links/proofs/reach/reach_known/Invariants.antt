use Rattle.ipld_tree.specs.Cid.{CidParts}
use Rattle.ipld_links.specs.Sets.{Among}
use Rattle.ipld_links.specs.Reaching.{Walks, KnowsLinks, stored_in}
use Rattle.ipld_links.proofs.reach.reach_known.Given as goal

abbrev pub invariant-loop-count : goal.invariant-loop-count
invariant-loop-count l = Walks (stored_in l.blocks) l.root l.walk
    × ((q : CidParts) → Among q l.walk.seen.keys → KnowsLinks (stored_in l.blocks) q)
