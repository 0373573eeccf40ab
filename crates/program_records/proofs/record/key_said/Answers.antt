use Rattle.std.proofs.Common.{inl, subst}
use Rattle.ipld_links.specs.Reaching.{stored_in}
use Rattle.atproto_mst.specs.Walks.{most_layers}
use Rattle.atproto_mst.specs.Finding.{FindsRecord}
use Rattle.program_records.proofs.Telling.{if_ok}
use Rattle.program_records.proofs.record.key_said.Goals as goal

pub returns-in-Some : goal.returns-in-Some
returns-in-Some c = if_ok c.block_said.result c.block_said.ensures (λ p h. inl (c.in-Some.name, subst (FindsRecord most_layers (stored_in c.args.blocks.now) c.args.key.now c.args.tree.now) c.in-Some.is c.in-Ok.ensures.found, h))
