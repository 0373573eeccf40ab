use Rattle.std.proofs.Common.{◌≡◌, take}
use Rattle.program_sections.specs.Kept.{kept_roots}
use Rattle.program_sections.proofs.kept.kept_roots.Given as goal

abbrev pub invariant-loop-root : goal.invariant-loop-root
invariant-loop-root l = l.left.items ≡ kept_roots l.kept (take l.root-index l.roots)
