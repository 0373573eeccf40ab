use Rattle.std.proofs.Common.{sym, ◌∙◌}
use Rattle.ipld_links.specs.Reaching.{stored_in}
use Rattle.program_index.proofs.Looking.{free_of, held_before, held_now}
use Rattle.program_index.proofs.way.look_up.Goals as goal

pub returns-then-is_some : goal.returns-then-is_some
returns-then-is_some g c = held_before (λ b. b.now) c.stored_bytes.result (g.S.ReadAt.bytes c.args.source.now) c.args.name.now (stored_in c.args.blocks.now) c.stored_bytes.ensures (sym c.is_some.ensures ∙ c.if-is_some.true)

pub returns-in-Ok : goal.returns-in-Ok
returns-in-Ok g c =
    let found = rw c.in-Block.is at c.in_ok-block.ensures in
    let free = free_of (λ b. b.now) c.stored_bytes.result (stored_in c.args.blocks.now c.args.name.now) c.stored_bytes.ensures (sym c.is_some.ensures ∙ c.if-is_some.false) in
    held_now (g.S.ReadAt.bytes c.args.source.now) c.args.name.now c.in-Block.block c.args.blocks.now c.insert.new.self c.in-Ok.ensures.updates.0 found.0 found.1 free
