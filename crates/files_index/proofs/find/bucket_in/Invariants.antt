use Rattle.std.proofs.Common.{◌≡◌, ◌-◌, ◌^◌, ◌<◌, length, IfSome}
use Rattle.files_index.specs.Lookup.{bucket_from, bucket_in}
use Rattle.files_index.proofs.find.bucket_in.Given as goal

abbrev pub invariant-loop-bucket : goal.invariant-loop-bucket
invariant-loop-bucket g l = IfSome (g.S.ReadAt.bytes l.source) (λ b. length b < 2 ^ 64
    → bucket_from b l.width (l.count - l._bucket) l.next ≡ bucket_in b l.width l.place)
