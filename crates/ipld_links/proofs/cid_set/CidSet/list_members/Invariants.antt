use Rattle.std.proofs.Common.{◌≡◌}
use Rattle.ipld_links.proofs.cid_set.CidSet.list_members.Given as goal

abbrev pub invariant-loop-cid : goal.invariant-loop-cid
invariant-loop-cid l = l.list.items ≡ l.yielded
