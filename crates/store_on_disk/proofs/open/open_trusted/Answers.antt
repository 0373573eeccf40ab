use Rattle.std.proofs.lemmas.Result.{IfOk-weaker}
use Rattle.sqlite_store.specs.Unopened.{wanted_by}
use Rattle.store_on_disk.proofs.Opening.{is_settled}
use Rattle.store_on_disk.proofs.Trusting.{is_fresh, listed_ready}
use Rattle.store_on_disk.proofs.open.open_trusted.Goals as goal

pub trusted-requires : goal.trusted-requires
trusted-requires g c = let e = c.in-Ok.ensures in record { fresh = is_fresh c.args.found c.in-Ok.store e.ready e.schema e.honest e.found e.kept c.requires.ours }

pub returns-in-Ok : goal.returns-in-Ok
returns-in-Ok g c =
    let e = c.in-Ok.ensures in
    record {
      settled = IfOk-weaker c.trusted.result _ _ (λ it h clean. is_settled _ _ (h clean)) c.trusted.ensures.ok;
      leaves = IfOk-weaker c.trusted.result _ _ (λ it h clean. h clean (listed_ready c.in-Ok.store (wanted_by c.args.found) e.ready e.schema c.requires.schema)) c.trusted.ensures.leaves;
    }
