use Rattle.std.proofs.Common.{rules}
use Rattle.files_index.proofs.Lookups.{bucket_there}
use Rattle.files_index.proofs.find.bucket_at.Goals as goal

pub returns : goal.returns
returns g c = bucket_there (g.S.ReadAt.bytes c.args.source.now) c.args.place c.saturating_add.result c.saturating_add-begin.result c.in-Some.width c.in-Some-2.length c.bucket_of.result (rw c.in-Some.is at c.in_ok-width.ensures) (search rules) (rw c.in-Some-2.is at c.in_ok-length.ensures) (search rules) (search rules)
