use Rattle.std.proofs.Common.{inl, subst, sym}
use Rattle.ipld_links.specs.Reaching.{stored_in}
use Rattle.atproto_mst.specs.Walks.{most_layers}
use Rattle.atproto_mst.specs.Finding.{IsWay}
use Rattle.program_records.proofs.Telling.{if_ok}
use Rattle.program_records.proofs.proof.proof_said.Goals as goal

pub returns-in-Ok : goal.returns-in-Ok
returns-in-Ok c = if_ok c.found_said.result c.found_said.ensures (λ p h. inl (
  c.deref.result.now,
  c.in-Ok.found,
  subst (IsWay most_layers (stored_in c.args.blocks.now) c.args.key.now c.args.tree.now) (sym c.deref.ensures.value) c.in-Ok.ensures.found.0,
  c.in-Ok.ensures.found.1,
  h,
))
