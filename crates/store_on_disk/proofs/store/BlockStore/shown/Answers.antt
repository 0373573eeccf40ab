use Rattle.std.proofs.Common.{sym, ◌∙◌}
use Rattle.store_on_disk.proofs.Marking.{shown_in, shown_else}
use Rattle.store_on_disk.proofs.store.BlockStore.shown.Goals as goal

pub returns-then-contains-clause-ok : goal.returns-then-contains-clause-ok
returns-then-contains-clause-ok g c clean = shown_in (g.S.Store.view c.args.self.now) c.args.kept.now c.args.name.now c.new.result.items c.new.ensures.items (sym c.contains.ensures ∙ c.if-contains.true)

pub returns-clause-ok : goal.returns-clause-ok
returns-clause-ok g c = shown_else c.get_known.result _ (g.S.Store.view c.args.self.now) c.args.kept.now c.args.name.now (sym c.contains.ensures ∙ c.if-contains.false) c.get_known.ensures.ok
