use Rattle.std.proofs.Common.{sym, ◌∙◌}
use Rattle.store_on_disk.proofs.Marking.{known_beside}
use Rattle.store_on_disk.proofs.store.BlockStore.visit_beside.Goals as goal

pub returns-in-Ok-clause-ok : goal.returns-in-Ok-clause-ok
returns-in-Ok-clause-ok g c clean =
    let shown = c.in_ok-block.ensures.ok clean in record {
      visits = λ root stored fits at. c.in-Ok.ensures.visits stored root (fits c.args.name _ shown ∙ sym c.as_deref.ensures.value) at;
      sees = c.in-Ok.ensures.sees;
      known = known_beside (g.S.Store.view c.args.self.now) c.args.kept.now c.args.name _ shown;
    }
