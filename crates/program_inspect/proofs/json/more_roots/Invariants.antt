use Rattle.std.proofs.Common.{◌≡◌, ◌∷◌, take, flat_map}
use Rattle.program_inspect.specs.Facts.{root_json}
use Rattle.program_inspect.proofs.json.more_roots.Given as goal

abbrev pub invariant-loop-root : goal.invariant-loop-root
invariant-loop-root l = l.out.items ≡ flat_map (λ r. 44 ∷ root_json r) (take l.root-index l.roots)
