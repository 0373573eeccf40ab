use Rattle.std.proofs.Common.{rules}
use Rattle.ipld_tree.specs.Tree.{text}
use Rattle.types_serde.proofs.Leaves.{good_text}
use Rattle.types_serde.proofs.Opening.{text_wait, puts_good}
use Rattle.types_serde.proofs.sink.Sink.text.Goals as goal

pub returns-in-WantsKey-clause-moved : goal.returns-in-WantsKey-clause-moved
returns-in-WantsKey-clause-moved c = text_wait c.args.self.now c.wait.new.self c.wait.result c.args.v.now _ (good_text c.args.v.now (search rules) c.wait.ensures.text) c.in-WantsKey.is c.wait.ensures.top c.wait.ensures.bytes c.wait.ensures.rest

pub returns-in_default-clause-moved : goal.returns-in_default-clause-moved
returns-in_default-clause-moved c = puts_good c.args.self.now c.put.new.self c.put.result _ (text c.args.v.now) c.put.ensures.put (rw c.as_bytes.ensures.value (good_text c.args.v.now (search rules) (search rules)))
