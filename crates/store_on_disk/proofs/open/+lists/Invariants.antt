use Rattle.std.proofs.Common.{length}
use Rattle.store_on_disk.proofs.open.+lists.Given as goal

abbrev pub decreases-lists : goal.decreases-lists
decreases-lists l = length l.rows.now
