use Rattle.std.proofs.Common.{take}
use Rattle.ipld_links.specs.Within.{AddsAll}
use Rattle.ipld_links.proofs.cid_set.CidSet.add_all.Given as goal

abbrev pub invariant-loop-link : goal.invariant-loop-link
invariant-loop-link l = AddsAll (take l.link-index l.links) l.held l.fn.self l.self
