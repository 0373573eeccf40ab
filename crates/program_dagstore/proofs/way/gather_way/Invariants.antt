use denote.Text.{Utf8}
use denote.Shadow.{shadow}
use Rattle.sqlite_trees.specs.View.{IsClean}
use Rattle.ipld_paths.specs.Paths.{segments}
use Rattle.ipld_links.specs.Reaching.{stored_in}
use Rattle.store_on_disk.specs.Ends.{Quiet}
use Rattle.store_on_disk.specs.Stored.{StaysSame}
use Rattle.store_on_disk.specs.Trees.{OfStored}
use Rattle.program_dagstore.proofs.Gathering.{Gathered}
use Rattle.program_dagstore.proofs.way.gather_way.Given as goal

abbrev pub invariant-loop-count : goal.invariant-loop-count
invariant-loop-count g l = shadow (Utf8 l.left) × Quiet g.S.Store l.fn.store l.store × StaysSame g.S.Store l.fn.store l.store
    × (IsClean (g.S.Store.view l.store) → OfStored (g.S.Store.view l.fn.store) (λ stored. Gathered stored l.root (segments l.path) (stored_in l.held) l.block (segments l.left)))
