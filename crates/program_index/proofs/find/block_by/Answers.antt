use Rattle.std.proofs.Common.{None, Some}
use Rattle.program_index.proofs.Finding.{two_known, some_known, bucket_found, gives_map, not_led, led_in}
use Rattle.program_index.proofs.find.block_by.Goals as goal

pub returns-in-Some-clause-sought : goal.returns-in-Some-clause-sought
returns-in-Some-clause-sought g c =
    let known = g.S.ReadAt.bytes c.args.source.now in
    two_known known
    (bucket_found known c.find_bucket.result c.in_ok-bucket.field-0 (Some c.in-Some.bucket) c.args.layout.now.index c.hash_code.result c.args.name.now.hash_code c.digest.result.now c.args.name.now.digest c.find_bucket.ensures c.in_ok-bucket.ensures c.in-Some.is c.hash_code.ensures c.digest.ensures)
    c.block_in.ensures.sought
    (λ b is gives below. gives_map c.block_in.result (gives below) (led_in c.args.name.now c.args.layout.now c.in-Some.bucket b (is below)))

pub returns-in-None-clause-sought : goal.returns-in-None-clause-sought
returns-in-None-clause-sought g c =
    let known = g.S.ReadAt.bytes c.args.source.now in
    some_known known
    (bucket_found known c.find_bucket.result c.in_ok-bucket.field-0 None c.args.layout.now.index c.hash_code.result c.args.name.now.hash_code c.digest.result.now c.args.name.now.digest c.find_bucket.ensures c.in_ok-bucket.ensures c.in-None.is c.hash_code.ensures c.digest.ensures)
    (λ b is below. not_led c.args.name.now c.args.layout.now b (is below))
