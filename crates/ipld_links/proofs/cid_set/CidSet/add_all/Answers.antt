use Rattle.std.proofs.Common.{arith}
use Rattle.std.proofs.lemmas.Result.{err_from_is_err_and}
use Rattle.ipld_links.proofs.Members.{some_left}
use Rattle.ipld_links.proofs.Within.{all_next, all_done}
use Rattle.ipld_links.proofs.cid_set.CidSet.add_all.Goals as goal

pub loop-link-preserved : goal.loop-link-preserved
loop-link-preserved c = all_next c.args.links.now c.loop-link.link-index c.link-item.result c.args.held.now c.args.self.now c.loop-link.self c.add_link.new.self c.loop-link-test.true c.link-item.is c.loop-link.invariant c.in_ok-add_link.ensures

pub returns-in_err-add_link-clause-memory : goal.returns-in_err-add_link-clause-memory
returns-in_err-add_link-clause-memory c =
    let p = err_from_is_err_and c.from_residual.result c.from_residual.ensures.1 in
    rw p.1 (some_left c.args.links.now c.loop-link.link-index c.loop-link-test.true)

pub returns-clause-added : goal.returns-clause-added
returns-clause-added c = all_done c.args.links.now c.loop-link.link-index c.args.held.now c.args.self.now c.loop-link.self (omega arith) c.loop-link.invariant
