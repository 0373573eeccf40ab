use Rattle.std.proofs.Common.{take}
use Rattle.program_sections.specs.MergeSteps.{AddsRoots}
use Rattle.program_sections.proofs.merge.Roots.add_all.Given as goal

abbrev pub invariant-loop-root : goal.invariant-loop-root
invariant-loop-root l = AddsRoots (take l.root-index l.roots) l.fn.self l.self
