use Rattle.std.proofs.Common.{arith}
use Rattle.files_unix_fs.proofs.Fronts.{small_below, group_below, fits_below, test_false}
use Rattle.files_unix_fs.proofs.varint.+split_groups.Goals as goal

pub returns-then-group-lt128-clause-below : goal.returns-then-group-lt128-clause-below
returns-then-group-lt128-clause-below t c =
    omega (arith, small_below c.args.more c.in-Some.field-0-0.now (test_false c.is_too_large.result c.if-is_too_large.false c.is_too_large.ensures.1) c.if-group-lt128.true, c.from.ensures)

pub overflow_mul-result : goal.overflow_mul-result
overflow_mul-result t c =
    let below = group_below c.args.more c.in-Some.field-0-0.now c.in_ok-number.number (test_false c.is_too_large.result c.if-is_too_large.false c.is_too_large.ensures.1) c.if-group-lt128.false c.in_ok-number.ensures.below in
    omega (arith, fits_below c.args.more _ c.requires below)

pub overflow_add-result : goal.overflow_add-result
overflow_add-result t c =
    let below = group_below c.args.more c.in-Some.field-0-0.now c.in_ok-number.number (test_false c.is_too_large.result c.if-is_too_large.false c.is_too_large.ensures.1) c.if-group-lt128.false c.in_ok-number.ensures.below in
    omega (arith, fits_below c.args.more _ c.requires below, c.from-2.ensures)

pub returns-clause-below : goal.returns-clause-below
returns-clause-below t c =
    omega (arith, group_below c.args.more c.in-Some.field-0-0.now c.in_ok-number.number (test_false c.is_too_large.result c.if-is_too_large.false c.is_too_large.ensures.1) c.if-group-lt128.false c.in_ok-number.ensures.below, c.from-2.ensures)
