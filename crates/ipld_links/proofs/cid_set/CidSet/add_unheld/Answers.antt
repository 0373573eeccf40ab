use Rattle.std.proofs.Common.{sym, ◌∙◌}
use Rattle.ipld_links.proofs.Keeping.{unheld_added}
use Rattle.ipld_links.proofs.cid_set.CidSet.add_unheld.Goals as goal

pub returns : goal.returns
returns c = unheld_added c.add.result c.args.cid.now c.args.held.now c.args.self.now c.add.new.self (λ k. cc (sym c.if-contains.false ∙ c.contains.ensures.1 k)) c.add.ensures
