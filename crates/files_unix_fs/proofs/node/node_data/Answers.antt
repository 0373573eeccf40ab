use Rattle.files_unix_fs.specs.Nodes.{data_in}
use Rattle.files_unix_fs.specs.Held.{held_field}
use Rattle.files_unix_fs.proofs.Steps.{other_passed}
use Rattle.files_unix_fs.proofs.node.node_data.Goals as goal

pub loop-field-preserved : goal.loop-field-preserved
loop-field-preserved c =
    other_passed data_in c.args.block.now c.loop-field.rest.now (held_field c.in-Ok.field) c.in-Ok.following.now c.loop-field.invariant c.in-Ok.ensures.field c.in_default-data_of_field.ensures
