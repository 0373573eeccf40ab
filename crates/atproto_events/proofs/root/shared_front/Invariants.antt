use Rattle.std.proofs.Common.{◌≡◌, ◌+◌, drop}
use Rattle.atproto_mst.specs.Trees.{shared}
use Rattle.atproto_events.proofs.root.shared_front.Given as goal

abbrev pub invariant-loop-index : goal.invariant-loop-index
invariant-loop-index l = shared l.first l.second ≡ l.index + shared (drop l.index l.first) (drop l.index l.second)
