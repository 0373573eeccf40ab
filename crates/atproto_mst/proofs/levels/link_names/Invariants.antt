use Rattle.std.proofs.Common.{◌≡◌, ◌++◌, drop}
use Rattle.atproto_mst.specs.Levels.{held_items, level_items, link_names}
use Rattle.atproto_mst.proofs.levels.link_names.Given as goal

abbrev pub invariant-loop-held : goal.invariant-loop-held
invariant-loop-held l = l.names.items ++ link_names (held_items (drop l.held-index l.held-items)) ≡ link_names (level_items l.level)
