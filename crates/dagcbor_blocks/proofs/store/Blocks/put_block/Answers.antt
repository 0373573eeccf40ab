use Rattle.std.proofs.Common.{◌≡◌, [], ◌∷◌, subst, rules}
use Rattle.dagcbor_blocks.specs.Blocks.{held_blocks, HoldsAlso}
use Rattle.dagcbor_blocks.proofs.store.Blocks.put_block.Goals as goal

pub returns-in-Ok-store : goal.returns-in-Ok-store
returns-in-Ok-store c =
    let same : c.in-Ok.block.items ≡ c.args.bytes.now = search rules in
    (search rules, subst (λ b. HoldsAlso (held_blocks c.args.self.now) ((c.args.name.now, b) ∷ []) (held_blocks c.store.new.self)) same c.in-Ok-store.ensures.1)
