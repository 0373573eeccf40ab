use Rattle.std.proofs.Common.{take}
use Rattle.ipld_links.specs.Reaching.{PushesAll}
use Rattle.ipld_links.proofs.reach.push_all.Given as goal

abbrev pub invariant-loop-link : goal.invariant-loop-link
invariant-loop-link l = PushesAll (take l.link-index l.links) l.fn.list.items l.list.items
