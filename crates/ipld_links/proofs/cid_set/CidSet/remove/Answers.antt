use Rattle.ipld_links.proofs.Members.{cid_removed}
use Rattle.ipld_links.proofs.cid_set.CidSet.remove.Goals as goal

pub returns : goal.returns
returns c = cid_removed c.args.cid.now c.args.self.now record { cids = c.remove.new.self } c.remove.ensures.updates.0
