use Rattle.std.proofs.Common.{◌≡◌, ◌-◌, ◌^◌, ◌<◌, length, IfSome}
use Rattle.files_index.specs.Lookup.{bucket_under_from, bucket_under}
use Rattle.files_index.proofs.find.bucket_under.Given as goal

abbrev pub invariant-loop-code : goal.invariant-loop-code
invariant-loop-code g l = IfSome (g.S.ReadAt.bytes l.source) (λ b. length b < 2 ^ 64
    → bucket_under_from b l.hash_code l.width (l.count - l._code) l.next ≡ bucket_under b l.hash_code l.width l.place)
