use Rattle.std.proofs.Common.{◌≡◌, take}
use Rattle.program_inspect.specs.Names.{distinct}
use Rattle.program_inspect.proofs.names.Names.of.Given as goal

abbrev pub invariant-loop-cid : goal.invariant-loop-cid
invariant-loop-cid l = l.names.cids.keys ≡ distinct (take l.cid-index l.cids)
