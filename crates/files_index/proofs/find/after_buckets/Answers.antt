use Rattle.files_index.proofs.Lookups.{both_known, after_more, after_ends}
use Rattle.files_index.proofs.find.after_buckets.Goals as goal

pub returns-in-None : goal.returns-in-None
returns-in-None g c = both_known (g.S.ReadAt.bytes c.args.source.now) c.loop-bucket.invariant (rw c.in-None.is at c.in_ok-_bucket.ensures) (λ b was is below.
    after_ends b c.in-Some.count c.loop-bucket._bucket c.loop-bucket.next _ c.loop-bucket-test.true (was below) (is below))

pub loop-bucket-preserved : goal.loop-bucket-preserved
loop-bucket-preserved g c = both_known (g.S.ReadAt.bytes c.args.source.now) c.loop-bucket.invariant (rw c.in-Some-2.is at c.in_ok-_bucket.ensures) (λ b was is below.
    after_more b c.in-Some.count c.loop-bucket._bucket c.loop-bucket.next c.in-Some-2.following c.in-Some-2._bucket _ c.loop-bucket-test.true (was below) (is below))
