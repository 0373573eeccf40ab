use Rattle.sqlite_trees.specs.View.{IsClean}
use Rattle.ipld_tree.specs.Cid.{CidParts}
use Rattle.ipld_links.specs.Sets.{Among}
use Rattle.ipld_links.specs.Reaching.{Stored, Walks}
use Rattle.store_rows.specs.Ends.{Quiet}
use Rattle.store_on_disk.specs.Stored.{IsSame}
use Rattle.store_on_disk.specs.Trees.{Fits, IsKnownBeside}
use Rattle.store_on_disk.proofs.store.BlockStore.reach_beside.Given as goal

abbrev pub invariant-loop-count : goal.invariant-loop-count
invariant-loop-count g l = Quiet g.S.Store l.fn.self l.self
    × (IsClean (g.S.Store.view l.self) → IsSame (g.S.Store.view l.fn.self) (g.S.Store.view l.self)
    × ((stored : Stored) → Fits (g.S.Store.view l.fn.self) l.kept stored → Walks stored l.root l.walk)
    × ((q : CidParts) → Among q l.walk.seen.keys → IsKnownBeside (g.S.Store.view l.fn.self) l.kept q))
