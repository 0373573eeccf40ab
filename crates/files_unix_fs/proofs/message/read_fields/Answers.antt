use Rattle.files_unix_fs.specs.Held.{held_said}
use Rattle.files_unix_fs.proofs.Steps.{all_read, empty_there}
use Rattle.files_unix_fs.proofs.message.read_fields.Goals as goal

pub returns : goal.returns
returns c = all_read c.args.message.now (held_said c.loop-rest.said) c.loop-rest.rest.now c.loop-rest.invariant (empty_there c.loop-rest.rest.now c.is_empty.result c.is_empty.ensures c.loop-rest-test.false)
