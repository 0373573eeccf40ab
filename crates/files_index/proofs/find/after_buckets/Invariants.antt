use Rattle.std.proofs.Common.{◌≡◌, ◌-◌, ◌^◌, ◌<◌, length, IfSome}
use Rattle.files_index.specs.Lookup.{after_heads, after_buckets}
use Rattle.files_index.proofs.find.after_buckets.Given as goal

abbrev pub invariant-loop-bucket : goal.invariant-loop-bucket
invariant-loop-bucket g l = IfSome (g.S.ReadAt.bytes l.source) (λ b. length b < 2 ^ 64
    → after_heads b (l.count - l._bucket) l.next ≡ after_buckets b l.place)
