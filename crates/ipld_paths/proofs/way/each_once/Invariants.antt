use Rattle.std.proofs.Common.{take}
use Rattle.ipld_paths.proofs.Gathering.{Gathered}
use Rattle.ipld_paths.proofs.way.each_once.Given as goal

abbrev pub invariant-loop-name : goal.invariant-loop-name
invariant-loop-name l = Gathered (take l.name-index l.names) l.once.items l.seen
