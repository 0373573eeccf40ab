use Rattle.std.proofs.Common.{length}
use Rattle.files_unix_fs.specs.UnixFs.{size_in}
use Rattle.files_unix_fs.proofs.Steps.{HasSame}
use Rattle.files_unix_fs.proofs.sizes.next_size.Given as goal

abbrev pub invariant-loop-field : goal.invariant-loop-field
invariant-loop-field l = HasSame size_in l.fields l.rest

abbrev pub decreases-loop-field : goal.decreases-loop-field
decreases-loop-field l = length l.rest
