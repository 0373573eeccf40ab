use Rattle.std.proofs.Common.{refl, inr}
use Rattle.atproto_events.specs.Pieces.{pieces}
use Rattle.atproto_events.proofs.Opening.{one_held_if}
use Rattle.atproto_events.proofs.open.push_subtree.Goals as goal

pub returns-clause-held : goal.returns-clause-held
returns-clause-held c =
    one_held_if c.push_piece.result c.args.lost.now c.add.new.self c.args.layer c.args.name.now (pieces c.args.found.now.items) (pieces c.push_piece.new.found.items) c.in_ok-add.ensures c.push_piece.ensures.pushed c.requires

pub returns-then-contains-clause-refused : goal.returns-then-contains-clause-refused
returns-then-contains-clause-refused c = inr (refl, c.requires c.args.name.now (c.contains.ensures.0 c.if-contains.true))
