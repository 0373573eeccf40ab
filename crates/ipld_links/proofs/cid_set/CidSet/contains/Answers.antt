use Rattle.std.proofs.Common.{sym, ◌∙◌}
use Rattle.ipld_links.specs.Sets.{members}
use Rattle.ipld_links.proofs.Members.{any_among, among_any}
use Rattle.ipld_links.proofs.cid_set.CidSet.contains.Goals as goal

pub returns : goal.returns
returns c = (
  λ t. any_among c.args.cid.now (members c.args.self.now) (sym c.contains.ensures ∙ t),
  λ m. c.contains.ensures ∙ among_any c.args.cid.now (members c.args.self.now) m,
)
