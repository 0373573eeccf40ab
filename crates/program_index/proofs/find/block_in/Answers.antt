use Rattle.std.proofs.Common.{None, Some, arith, ◌≤◌, ◌+◌, ◌-◌, ◌^◌, min}
use Rattle.files_index.specs.Lookup.{FindsFirst, FindsOffset}
use Rattle.program_index.proofs.Finding.{two_known, three_known, four_known, found_of, no_entry, passed_on, all_passed}
use Rattle.program_index.proofs.find.block_in.Goals as goal

pub returns-in_default-2-clause-sought : goal.returns-in_default-2-clause-sought
returns-in_default-2-clause-sought g c =
    let known = g.S.ReadAt.bytes c.args.source.now in
    three_known known
    (found_of known c.first_of.result c.in_ok-first.field-0 (Some c.in-Some.first) (FindsFirst c.args.bucket.now) c.digest-digest.result.now c.args.name.now.digest c.first_of.ensures c.in_ok-first.ensures c.in-Some.is c.digest-digest.ensures)
    c.loop-number.invariant
    (found_of known c.offset_of.result c.in_ok-offset.field-0 None (λ d. FindsOffset c.args.bucket.now d c.loop-number.number) c.digest-digest.result.now c.args.name.now.digest c.offset_of.ensures c.in_ok-offset.ensures c.in_default-2.is c.digest-digest.ensures)
    (λ b f up none below. no_entry c.args.name.now c.args.layout.now c.args.bucket.now c.in-Some.first c.loop-number.number b (f below) c.loop-number.auto.number (up below) (none below))

pub loop-number-preserved : goal.loop-number-preserved
loop-number-preserved g c =
    let known = g.S.ReadAt.bytes c.args.source.now in
    four_known known
    (found_of known c.first_of.result c.in_ok-first.field-0 (Some c.in-Some.first) (FindsFirst c.args.bucket.now) c.digest-digest.result.now c.args.name.now.digest c.first_of.ensures c.in_ok-first.ensures c.in-Some.is c.digest-digest.ensures)
    c.loop-number.invariant
    (found_of known c.offset_of.result c.in_ok-offset.field-0 (Some c.in-Some-2.offset) (λ d. FindsOffset c.args.bucket.now d c.loop-number.number) c.digest-digest.result.now c.args.name.now.digest c.offset_of.ensures c.in_ok-offset.ensures c.in-Some-2.is c.digest-digest.ensures)
    (rw c.in_default-3.is at c.in_ok-block.ensures.sought)
    (λ b f up entry none below. passed_on c.args.name.now c.args.layout.now c.args.bucket.now c.in-Some.first c.loop-number.number c.in-Some-2.offset b (f below) (up below) (entry below) (none below))

pub returns-clause-sought : goal.returns-clause-sought
returns-clause-sought g c =
    let known = g.S.ReadAt.bytes c.args.source.now in
    let far : min (c.in-Some.first + 16) (2 ^ 64 - 1) ≤ c.loop-number.number = omega (arith, c.saturating_add-number-end.ensures, c.loop-number-test.false) in
    two_known known
    (found_of known c.first_of.result c.in_ok-first.field-0 (Some c.in-Some.first) (FindsFirst c.args.bucket.now) c.digest-digest.result.now c.args.name.now.digest c.first_of.ensures c.in_ok-first.ensures c.in-Some.is c.digest-digest.ensures)
    c.loop-number.invariant
    (λ b f up below. all_passed c.args.name.now c.args.layout.now c.args.bucket.now c.in-Some.first c.loop-number.number b (f below) far (up below))
