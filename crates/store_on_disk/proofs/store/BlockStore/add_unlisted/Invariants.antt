use Rattle.std.proofs.Common.{take}
use Rattle.sqlite_trees.specs.View.{IsClean}
use Rattle.ipld_links.specs.Sets.{Among}
use Rattle.store_on_disk.specs.Stored.{IsSame}
use Rattle.store_on_disk.specs.Lost.{AddsNames, GrowsByLost}
use Rattle.store_rows.specs.Ends.{Quiet}
use Rattle.store_on_disk.proofs.store.BlockStore.add_unlisted.Given as goal

abbrev pub invariant-loop-name : goal.invariant-loop-name
invariant-loop-name g l = Quiet g.S.Store l.fn.self l.self
    × (IsClean (g.S.Store.view l.self) → IsSame (g.S.Store.view l.fn.self) (g.S.Store.view l.self)
    × AddsNames (g.S.Store.view l.fn.self) (take l.name-index l.names) l.fn.lost l.lost)
    × GrowsByLost (λ q. Among q l.names) l.fn.lost l.lost
