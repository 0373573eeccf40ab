use Rattle.std.proofs.Common.{inl}
use Rattle.ipld_links.specs.Reaching.{stored_in}
use Rattle.program_parts.proofs.Known.{if_some}
use Rattle.program_records.proofs.json.json_of.Goals as goal

pub returns-in_ok-said-in-Ok-Ok : goal.returns-in_ok-said-in-Ok-Ok
returns-in_ok-said-in-Ok-Ok g c = if_some (g.R.Read.remaining c.args.input.now) (rw c.in-Ok-Ok.field-0-is at c.in-Ok-Ok.ensures) (λ b k. inl (c.in-Ok-Ok.held.roots.items, stored_in c.in-Ok-Ok.held.blocks, k, c.in_ok-said-in-Ok-Ok.ensures))
