use Rattle.std.proofs.Common.{refl}
use Rattle.dagcbor_blocks.proofs.Nothing.{nothing_missing, some_held}
use Rattle.dagcbor_blocks.proofs.store.Blocks.missing.Goals as goal

pub returns-then-is_empty-clause-lists : goal.returns-then-is_empty-clause-lists
returns-then-is_empty-clause-lists c = nothing_missing _ c.args.self.now.blocks.entries c.new.result (c.if-is_empty.ensures.0 refl) c.new.ensures.items

pub returns-clause-memory : goal.returns-clause-memory
returns-clause-memory c = some_held _ c.args.self.now.blocks.entries _ (λ e. cc (c.if-is_empty.ensures.1 e))
