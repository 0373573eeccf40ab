use Rattle.ipld_links.proofs.Members.{cid_added}
use Rattle.ipld_links.proofs.cid_set.CidSet.add.Goals as goal

pub returns : goal.returns
returns c = cid_added c.args.cid c.args.self.now record { cids = c.insert.new.self } c.version-version.ensures.valid c.in_ok-insert.ensures.updates.0
