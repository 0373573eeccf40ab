use Rattle.std.proofs.lemmas.Result.{IfOk-weaker}
use Rattle.sqlite_store.specs.Unopened.{wanted_by}
use Rattle.store_on_disk.proofs.Opening.{is_settled}
use Rattle.store_on_disk.proofs.Trusting.{listed_ready}
use Rattle.store_on_disk.proofs.open.open_whole.Goals as goal

pub returns-in-Ok : goal.returns-in-Ok
returns-in-Ok g c =
    let e = c.in-Ok.ensures in
    record {
      settled = IfOk-weaker c.opened.result _ _ (λ it h clean. is_settled _ _ (h clean)) c.opened.ensures.ok;
      leaves = IfOk-weaker c.opened.result _ _ (λ it h clean. h clean (listed_ready c.in-Ok.store (wanted_by c.args.found) e.ready e.schema c.requires.schema)) c.opened.ensures.leaves;
    }
