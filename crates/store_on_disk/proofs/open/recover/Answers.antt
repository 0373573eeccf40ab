use Rattle.std.proofs.Common.{◌≡◌, ℕ, List, sym, ap, ap₂, ◌∙◌, subst}
use Rattle.sqlite_wal.specs.Recovery.{Image}
use Rattle.sqlite_wal.specs.Files.{seen_image}
use Rattle.sqlite_store.specs.Unopened.{state_of, image}
use Rattle.store_on_disk.specs.Left.{NamesSize, IsLeft}
use Rattle.store_on_disk.proofs.open.recover.Goals as goal

abbrev both : List ℕ → List ℕ → Image
both log db = record { log = log; db = db }

pub open_found-requires-clause-ours : goal.open_found-requires-clause-ours
open_found-requires-clause-ours g c at clean =
    let e = c.in_ok-unopened.ensures in
    let read = c.page_size.ensures in
    let old = seen_image g.D.Disk c.args.files.log c.args.files.db in
    let same : image c.in_ok-unopened.unopened ≡ old = ap (λ p. seen_image g.D.Disk p.0 p.1) e.files ∙ ap₂ both read.log.seen read.db.seen in
    let names = c.in_ok-size.ensures.names (sym e.clean ∙ clean) c.if-is_begun.true in
    record {
      names = subst (λ i. NamesSize i (state_of c.in_ok-unopened.unopened).page_size) (sym same) (subst (NamesSize old) (sym e.size) names);
      left = subst IsLeft (sym same) (c.requires.ours at);
    }
