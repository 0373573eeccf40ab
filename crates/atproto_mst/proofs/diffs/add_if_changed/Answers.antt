use Rattle.std.proofs.Common.{◌≢◌}
use Rattle.atproto_mst.proofs.Comparing.{other_name}
use Rattle.atproto_mst.proofs.Refusals.{err_so}
use Rattle.atproto_mst.proofs.diffs.add_if_changed.Goals as goal

pub returns-clause-memory : goal.returns-clause-memory
returns-clause-memory c =
    err_so (c.args.before.now.value ≢ c.args.after.now.value) c.add_change.result (other_name c.args.before.now.value c.args.after.now.value c.eq.result c.if-eq.false c.eq.ensures)
