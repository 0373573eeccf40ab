use Rattle.std.proofs.Common.{subst}
use Rattle.ipld_links.specs.Sets.{Among}
use Rattle.store_on_disk.specs.Lost.{AddsNames, GrowsByLost}
use Rattle.store_on_disk.proofs.Unlisted.{on_ok_clean, adds_lost, grows_linked}
use Rattle.store_on_disk.proofs.store.BlockStore.add_lost.Goals as goal

pub returns-in-Ok-clause-ok : goal.returns-in-Ok-clause-ok
returns-in-Ok-clause-ok g c =
    let v = g.S.Store.view c.args.self.now in
    on_ok_clean c.add_unlisted.result _ _ _ c.add_unlisted.ensures.ok (λ h. adds_lost v c.args.codec c.args.block.now c.in-Ok.names.items c.args.lost.now c.add_unlisted.new.lost c.in-Ok.ensures.names
    (subst (λ ns. AddsNames v ns c.args.lost.now c.add_unlisted.new.lost) c.deref.ensures.value h))

pub returns-in-Ok-clause-grows : goal.returns-in-Ok-clause-grows
returns-in-Ok-clause-grows g c =
    grows_linked c.args.codec c.args.block.now c.in-Ok.names.items c.args.lost.now c.add_unlisted.new.lost c.in-Ok.ensures.names
    (subst (λ ns. GrowsByLost (λ q. Among q ns) c.args.lost.now c.add_unlisted.new.lost) c.deref.ensures.value c.add_unlisted.ensures.grows)
