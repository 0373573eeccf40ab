use denote.Text.{Utf8}
use denote.Shadow.{shadow}
use Rattle.std.proofs.Common.{length}
use Rattle.ipld_paths.specs.Paths.{segments}
use Rattle.store_on_disk.specs.Ends.{Quiet}
use Rattle.store_on_disk.specs.Stored.{StaysSame}
use Rattle.program_dagstore.specs.Contents.{OfGot}
use Rattle.program_dagstore.proofs.Contents.{CameTo}
use Rattle.program_dagstore.proofs.file.find_file.Given as goal

abbrev pub invariant-loop-name : goal.invariant-loop-name
invariant-loop-name g l = shadow (Utf8 l.left) × Quiet g.S.Store l.fn.store l.store × StaysSame g.S.Store l.fn.store l.store
    × OfGot (g.S.Store.view l.fn.store) (g.S.Store.view l.store) (CameTo l.root (segments l.path) l.block (segments l.left))

abbrev pub decreases-loop-name : goal.decreases-loop-name
decreases-loop-name g l = length (segments l.left)
