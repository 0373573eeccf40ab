use Rattle.std.proofs.Common.{ℕ, Bool, cond, List, sym, ap₂, subst}
use Rattle.sqlite_disk.specs.Events.{Event, replay}
use Rattle.sqlite_wal.specs.Recovery.{Image}
use Rattle.store_on_disk.specs.Left.{IsLeft}
use Rattle.store_on_disk.proofs.open.BlockStore+FileStore+FileFrom+S.open.Goals as goal

abbrev both : List ℕ → List ℕ → Image
both log db = record { log = log; db = db }

abbrev seen : List ℕ → List ℕ → Bool → List Event → List ℕ
seen log db is_log history = (replay (cond is_log log db) history).seen

pub recover-requires-clause-ours : goal.recover-requires-clause-ours
recover-requires-clause-ours g c at =
    let (log, db) = c.in_ok-files.ensures.fresh in
    let same = ap₂ both (ap₂ (seen g.S.Start.log g.S.Start.db) log.0 log.1) (ap₂ (seen g.S.Start.log g.S.Start.db) db.0 db.1) in
    subst IsLeft (sym same) c.requires.ours
