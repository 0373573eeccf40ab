use Rattle.std.proofs.Common.{sym, ◌∙◌, true≢false}
use Rattle.store_on_disk.proofs.Unlisted.{name_put, grows_put}
use Rattle.store_on_disk.proofs.Walking.{fails_same}
use Rattle.store_on_disk.proofs.store.BlockStore.add_if_unlisted.Goals as goal

pub returns-in-Ok-clause-ok : goal.returns-in-Ok-clause-ok
returns-in-Ok-clause-ok g c clean =
    name_put (g.S.Store.view c.args.self.now) c.args.name.now c.args.lost.now c.insert.new.self
    (λ l. true≢false (sym ((c.in_ok-contains.ensures.found clean).1 l) ∙ c.if-branch.false)) c.in-Ok.ensures.updates.0

pub returns-in-Err-clause-refused : goal.returns-in-Err-clause-refused
returns-in-Err-clause-refused g c = fails_same g.S.Store c.args.self.now c.contains.new.self c.give_up.new.self c.give_up.result c.in_ok-contains.ensures.reads.quiet c.in_ok-contains.ensures.reads.same c.give_up.ensures.quiet c.give_up.ensures.refused

pub returns-in-Ok-clause-grows : goal.returns-in-Ok-clause-grows
returns-in-Ok-clause-grows g c = grows_put c.args.name.now c.args.lost.now c.insert.new.self c.in-Ok.ensures.updates.0
