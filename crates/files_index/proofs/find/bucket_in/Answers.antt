use Rattle.files_index.proofs.Lookups.{both_known, in_found, in_more, in_ends}
use Rattle.files_index.proofs.find.bucket_in.Goals as goal

pub returns-in-Some-2 : goal.returns-in-Some-2
returns-in-Some-2 g c = both_known (g.S.ReadAt.bytes c.args.source.now) c.loop-bucket.invariant (rw c.in-Some-2.is at c.in_ok-bucket.ensures) (λ b was is below.
    in_found b c.args.width c.in-Some.count c.loop-bucket._bucket c.loop-bucket.next c.in-Some-2._following c.in-Some-2.bucket _ c.loop-bucket-test.true (was below) (is below) c.if-bucket-width.true)

pub returns-in-None : goal.returns-in-None
returns-in-None g c = both_known (g.S.ReadAt.bytes c.args.source.now) c.loop-bucket.invariant (rw c.in-None.is at c.in_ok-bucket.ensures) (λ b was is below.
    in_ends b c.args.width c.in-Some.count c.loop-bucket._bucket c.loop-bucket.next _ c.loop-bucket-test.true (was below) (is below))

pub loop-bucket-preserved : goal.loop-bucket-preserved
loop-bucket-preserved g c = both_known (g.S.ReadAt.bytes c.args.source.now) c.loop-bucket.invariant (rw c.in-Some-2.is at c.in_ok-bucket.ensures) (λ b was is below.
    in_more b c.args.width c.in-Some.count c.loop-bucket._bucket c.loop-bucket.next c.in-Some-2._following c.in-Some-2.bucket _ c.loop-bucket-test.true (was below) (is below) c.if-bucket-width.false)
