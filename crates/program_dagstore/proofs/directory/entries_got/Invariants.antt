use Rattle.std.proofs.Common.{length}
use Rattle.files_unix_fs.specs.Reading.{HasRow}
use Rattle.program_parts.specs.Entries.{KnowsWords}
use Rattle.program_parts.proofs.Listing.{IsListedTo}
use Rattle.store_on_disk.specs.Ends.{Quiet}
use Rattle.store_on_disk.specs.Stored.{StaysSame}
use Rattle.program_dagstore.specs.Contents.{OfGot}
use Rattle.program_dagstore.proofs.directory.entries_got.Given as goal

abbrev pub invariant-loop-link : goal.invariant-loop-link
invariant-loop-link g l = HasRow l.links × Quiet g.S.Store l.fn.store l.store × StaysSame g.S.Store l.fn.store l.store
    × OfGot (g.S.Store.view l.fn.store) (g.S.Store.view l.store) (λ stored. KnowsWords stored l.known × IsListedTo stored l.block l.links l.well l.lines.items)

abbrev pub decreases-loop-link : goal.decreases-loop-link
decreases-loop-link g l = length l.links
