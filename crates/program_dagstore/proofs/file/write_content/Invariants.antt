use Rattle.std.proofs.Common.{map}
use Rattle.files_unix_fs.specs.Reading.{asked}
use Rattle.program_parts.proofs.Contents.{HasSaid}
use Rattle.store_on_disk.specs.Ends.{Quiet}
use Rattle.store_on_disk.specs.Stored.{StaysSame}
use Rattle.program_dagstore.specs.Contents.{OfGot}
use Rattle.program_dagstore.proofs.file.write_content.Given as goal

abbrev pub invariant-loop-count : goal.invariant-loop-count
invariant-loop-count g l = Quiet g.S.Store l.fn.store l.store × StaysSame g.S.Store l.fn.store l.store
    × OfGot (g.S.Store.view l.fn.store) (g.S.Store.view l.store) (λ stored. HasSaid stored l.root (map asked l.reader.wanted.items) (g.W.Write.contents l.fn.output) (g.V.Write.contents l.fn.errors) (g.W.Write.contents l.output) (g.V.Write.contents l.errors))
