use Rattle.std.proofs.Common.{subst}
use Rattle.ipld_links.specs.Verdicts.{IsVerdict}
use Rattle.ipld_links.proofs.Linking.{item_linked, node_linked}
use Rattle.files_car.proofs.Checking.{refused_noted, no_node_noted, unread_noted, unknown_noted, others_noted, unverified_noted}
use Rattle.files_car.proofs.check.CarCheck.note.Goals as goal

pub hold_linked-requires : goal.hold_linked-requires
hold_linked-requires c =
    let is = subst (IsVerdict (c.args.section.now.cid, c.args.section.now.block.now)) c.in-Block.is c.requires in
    record { verified = is.0; linked = item_linked (c.args.section.now.cid, c.args.section.now.block.now) c.in-Block.field-0 is }

pub hold_linked-requires-in-Node : goal.hold_linked-requires-in-Node
hold_linked-requires-in-Node c =
    let is = subst (IsVerdict (c.args.section.now.cid, c.args.section.now.block.now)) c.in-Node.is c.requires in
    record { verified = is.0; linked = node_linked (c.args.section.now.cid, c.args.section.now.block.now) is }

pub returns-in-NoNode-clause-after : goal.returns-in-NoNode-clause-after
returns-in-NoNode-clause-after c = no_node_noted (c.args.section.now.cid, c.args.section.now.block.now) c.args.verdict.now c.in-NoNode.field-0 c.hold-in-NoNode.result c.args.self.now c.hold-in-NoNode.new.self c.in-NoNode.is c.requires c.hold-in-NoNode.ensures.held

pub returns-in-Refused-clause-after : goal.returns-in-Refused-clause-after
returns-in-Refused-clause-after c = refused_noted (c.args.section.now.cid, c.args.section.now.block.now) c.args.verdict.now c.in-Refused.field-0 c.hold.result c.args.self.now c.hold.new.self c.in-Refused.is c.requires c.hold.ensures.held

pub returns-in-NotRead-clause-after : goal.returns-in-NotRead-clause-after
returns-in-NotRead-clause-after c = unread_noted (c.args.section.now.cid, c.args.section.now.block.now) c.args.verdict.now c.hold-in-NotRead.result c.args.self.now c.hold-in-NotRead.new.self c.in-NotRead.is c.requires c.hold-in-NotRead.ensures.held

pub returns-in-LinksNotRead-clause-after : goal.returns-in-LinksNotRead-clause-after
returns-in-LinksNotRead-clause-after c = unknown_noted (c.args.section.now.cid, c.args.section.now.block.now) c.args.verdict.now c.hold-in-LinksNotRead.result c.args.self.now c.hold-in-LinksNotRead.new.self c.in-LinksNotRead.is c.requires c.hold-in-LinksNotRead.ensures.held

pub returns-in-OtherBytes-clause-after : goal.returns-in-OtherBytes-clause-after
returns-in-OtherBytes-clause-after c = others_noted (c.args.section.now.cid, c.args.section.now.block.now) c.args.verdict.now c.args.self.now c.in-OtherBytes.is c.requires

pub returns-in-Unverified-clause-after : goal.returns-in-Unverified-clause-after
returns-in-Unverified-clause-after c = unverified_noted (c.args.section.now.cid, c.args.section.now.block.now) c.args.verdict.now c.args.self.now c.in-Unverified.is c.requires
