use Rattle.files_unix_fs.specs.UnixFs.{size_in, sizes_of}
use Rattle.files_unix_fs.specs.Held.{held_field}
use Rattle.files_unix_fs.proofs.Steps.{one_found, other_passed}
use Rattle.files_unix_fs.proofs.sizes.next_size.Goals as goal

pub returns-in-Some-clause-size : goal.returns-in-Some-clause-size
unfolding sizes_of
returns-in-Some-clause-size c =
    one_found size_in c.args.fields.now c.loop-field.rest.now (held_field c.in-Ok.field) c.in-Ok.following.now c.in-Some.size c.loop-field.invariant c.in-Ok.ensures.field c.in-Some.ensures

pub loop-field-preserved : goal.loop-field-preserved
loop-field-preserved c =
    other_passed size_in c.args.fields.now c.loop-field.rest.now (held_field c.in-Ok.field) c.in-Ok.following.now c.loop-field.invariant c.in-Ok.ensures.field c.in_default-size_of_field.ensures
