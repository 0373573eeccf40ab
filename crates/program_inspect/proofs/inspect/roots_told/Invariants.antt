use Rattle.std.proofs.Common.{◌≡◌, map, take}
use Rattle.program_inspect.specs.Inspecting.{root_in}
use Rattle.program_inspect.proofs.inspect.roots_told.Given as goal

abbrev pub invariant-loop-root : goal.invariant-loop-root
invariant-loop-root l = l.told.items ≡ map (root_in l.missing) (take l.root-index l.roots)
