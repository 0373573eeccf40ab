use Rattle.std.proofs.Common.{inl, sym, subst, ◌∙◌}
use Rattle.ipld_links.specs.Reaching.{stored_in}
use Rattle.atproto_mst.specs.Entries.{entries}
use Rattle.program_records.specs.Json.{AreRecordsSaid}
use Rattle.program_records.proofs.Telling.{if_ok}
use Rattle.program_records.proofs.json.held_said.Goals as goal

pub returns-in-Ok : goal.returns-in-Ok
returns-in-Ok c =
    let found = rw c.in-Ok.is at c.in_ok-repo.ensures in
    if_ok c.records_said.result c.records_said.ensures (λ p h. inl (
      found.0,
      found.1,
      c.in-Ok.repo.commit,
      c.in-Ok.repo.records.items,
      sym c.deref.ensures.value ∙ found.2,
      found.3,
      subst (λ rs. AreRecordsSaid (stored_in c.args.held.now.blocks) (entries rs) p.0.1 p.0.0.items p.1.items) c.deref-in-Ok.ensures.value h,
    ))
