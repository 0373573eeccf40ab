use Rattle.std.proofs.Common.{rules, ◌≡◌}
use Rattle.files_car.proofs.Holding.{stored_put}
use Rattle.files_car.proofs.blocks.put_block.Goals as goal

pub returns-in-Ok : goal.returns-in-Ok
returns-in-Ok c =
    let bytes : c.in_ok-block.block.items ≡ c.args.section.now.block.now = search rules in
    stored_put c.args.blocks.now c.insert.new.self (c.args.section.now.cid, c.args.section.now.block.now) c.in_ok-block.block bytes c.in-Ok.ensures.updates.0
