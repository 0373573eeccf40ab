use Rattle.std.proofs.Common.{rules}
use Rattle.files_index.proofs.Lookups.{both_known, three_known, ok_map, under_ends, under_found, under_more, under_stops}
use Rattle.files_index.proofs.find.bucket_under.Goals as goal

pub returns-in_default-2 : goal.returns-in_default-2
returns-in_default-2 g c = both_known (g.S.ReadAt.bytes c.args.source.now) c.loop-code.invariant (rw c.in_default-2.is at c.in_ok-code.ensures) (λ b was is below.
    under_ends b c.args.width c.args.hash_code c.in-Some.count c.loop-code._code c.loop-code.next _ c.loop-code-test.true (was below) is)

pub returns-then-code-hash_code : goal.returns-then-code-hash_code
returns-then-code-hash_code g c = three_known (g.S.ReadAt.bytes c.args.source.now) c.loop-code.invariant (rw c.in-Some-2.is at c.in_ok-code.ensures) c.bucket_in.ensures (λ b was is gives below.
    ok_map c.bucket_in.result (gives below) (λ r h. under_found b c.args.width c.args.hash_code c.in-Some.count c.loop-code._code c.loop-code.next c.saturating_add-buckets.result c.in-Some-2.code r _ below c.loop-code-test.true (was below) is (search rules) c.if-code-hash_code.true h))

pub returns-in-None : goal.returns-in-None
returns-in-None g c = three_known (g.S.ReadAt.bytes c.args.source.now) c.loop-code.invariant (rw c.in-Some-2.is at c.in_ok-code.ensures) (rw c.in-None.is at c.in_ok-following.ensures) (λ b was is gives below.
    under_stops b c.args.width c.args.hash_code c.in-Some.count c.loop-code._code c.loop-code.next c.saturating_add-buckets.result c.in-Some-2.code _ below c.loop-code-test.true (was below) is (search rules) c.if-code-hash_code.false (gives below))

pub loop-code-preserved : goal.loop-code-preserved
loop-code-preserved g c = three_known (g.S.ReadAt.bytes c.args.source.now) c.loop-code.invariant (rw c.in-Some-2.is at c.in_ok-code.ensures) (rw c.in-Some-3.is at c.in_ok-following.ensures) (λ b was is gives below.
    under_more b c.args.width c.args.hash_code c.in-Some.count c.loop-code._code c.loop-code.next c.saturating_add-buckets.result c.in-Some-2.code c.in-Some-3.following _ below c.loop-code-test.true (was below) is (search rules) c.if-code-hash_code.false (gives below))
