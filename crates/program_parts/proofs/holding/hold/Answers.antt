use Rattle.std.proofs.Common.{rules, ◌≡◌}
use Rattle.program_parts.proofs.Keeping.{kept_there, kept_before}
use Rattle.program_parts.proofs.holding.hold.Goals as goal

pub returns-then-not-replaces : goal.returns-then-not-replaces
returns-then-not-replaces c = kept_before c.args.kept c.args.blocks.now c.args.section.now.cid c.args.section.now.block.now _ c.stored_bytes.ensures c.if-not-replaces.ensures

pub returns-in-Ok : goal.returns-in-Ok
returns-in-Ok c =
    let bytes : c.in_ok-block.block.items ≡ c.args.section.now.block.now = search rules in
    kept_there c.args.kept c.args.blocks.now c.args.section.now.cid c.args.section.now.block.now _ c.stored_bytes.ensures c.insert.new.self c.in_ok-block.block bytes c.in-Ok.ensures.updates.0 c.if-not-replaces.ensures
