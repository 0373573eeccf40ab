use Rattle.std.proofs.Common.{arith}
use Rattle.files_unix_fs.proofs.Fronts.{varint_shorter, value_left}
use Rattle.files_unix_fs.proofs.field.split_field.Goals as goal

pub returns-clause-shorter : goal.returns-clause-shorter
returns-clause-shorter c =
    omega (arith, varint_shorter c.args.bytes.now c.in_ok-tag.tag c.in_ok-tag.following.now c.in_ok-tag.ensures, value_left c.in_ok-tag.tag c.in_ok-tag.following.now _ c.in_ok-value.rest.now c.in_ok-value.ensures)
