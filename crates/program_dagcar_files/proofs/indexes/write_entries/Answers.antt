use Rattle.std.proofs.Common.{subst, sym}
use Rattle.program_parts.proofs.Known.{if_some}
use Rattle.program_parts.proofs.Saying.{both_said}
use Rattle.program_dagcar_files.specs.Indexes.{AreEntriesSaid, IsListingSaid}
use Rattle.program_dagcar_files.proofs.indexes.write_entries.Goals as goal

pub returns : goal.returns
returns g c = if_some (g.S.ReadAt.bytes c.args.source.now) c.in_ok-listed.ensures (λ b h.
    both_said (AreEntriesSaid b) c.in_ok-said.said.0.items c.deref.result.now c.in_ok-said.said.1 _ _ c.say_both.result _ _ (c.in_ok-listed.listed, h, subst (IsListingSaid c.in_ok-listed.listed c.in_ok-said.said.1 c.in_ok-said.said.0.items) (sym c.deref.ensures.value) c.in_ok-said.ensures) c.say_both.ensures)
