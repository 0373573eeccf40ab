use Rattle.std.proofs.Common.{◌≡◌, map}
use Rattle.program_sections.specs.Kept.{others}
use Rattle.program_sections.proofs.kept.others.Given as goal

abbrev pub invariant-loop-name : goal.invariant-loop-name
invariant-loop-name l = l.left.items ≡ others (map (λ r. r.now) l.yielded) l.found.keys
