use Rattle.std.proofs.Common.{arith}
use Rattle.atproto_events.specs.Pieces.{pieces}
use Rattle.atproto_events.proofs.Building.{root_named}
use Rattle.atproto_events.proofs.Hiding.{top_lower, root_refused}
use Rattle.atproto_events.proofs.root.root_of_pieces.Goals as goal

pub node_of-requires : goal.node_of-requires
node_of-requires c = top_lower c.top_of.result (pieces c.args.all.now) (omega (arith, c.top_of.ensures))

pub returns-clause-named : goal.returns-clause-named
returns-clause-named c = root_named c.node_of.result c.top_of.result (pieces c.args.all.now) c.top_of.ensures c.node_of.ensures.named

pub returns-clause-refused : goal.returns-clause-refused
returns-clause-refused c = root_refused c.node_of.result c.top_of.result (pieces c.args.all.now) c.node_of.ensures.refused
