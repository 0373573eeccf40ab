use Rattle.ipld_links.specs.Reaching.{stored_in}
use Rattle.atproto_mst.specs.Changes.{changes}
use Rattle.atproto_mst.specs.Levels.{IsOfShape}
use Rattle.atproto_mst.proofs.Opening.{not_so}
use Rattle.atproto_mst.proofs.Sharing.{read_whole, changes_of_stored, diff_stopped, stopped_for_memory}
use Rattle.atproto_mst.proofs.skipping.diff_apart.Goals as goal

pub returns-in-Ok-clause-whole : goal.returns-in-Ok-clause-whole
returns-in-Ok-clause-whole c = changes_of_stored (stored_in c.args.blocks.now) c.args.old.now c.args.new.now (changes c.in-Ok.found.items) c.in-Ok.ensures.read

pub returns-then-is_of_shape-clause-read : goal.returns-then-is_of_shape-clause-read
returns-then-is_of_shape-clause-read c = read_whole (stored_in c.args.blocks.now) c.args.old.now c.args.new.now c.diff_whole.result c.diff_whole.ensures.read

pub returns-else-is_of_shape-clause-refused : goal.returns-else-is_of_shape-clause-refused
returns-else-is_of_shape-clause-refused c =
    diff_stopped (stored_in c.args.blocks.now) c.args.old.now c.args.new.now c.in-Err.error (not_so (IsOfShape c.in-Err.error) c.is_of_shape.result c.if-is_of_shape.false c.is_of_shape.ensures) c.in-Err.ensures.refused

pub returns-else-is_of_shape-clause-whole : goal.returns-else-is_of_shape-clause-whole
returns-else-is_of_shape-clause-whole c =
    stopped_for_memory (stored_in c.args.blocks.now) c.args.old.now c.args.new.now c.in-Err.error (not_so (IsOfShape c.in-Err.error) c.is_of_shape.result c.if-is_of_shape.false c.is_of_shape.ensures) c.in-Err.ensures.refused
