use Rattle.std.proofs.Common.{◌≡◌, ◌∷◌, take, flat_map}
use Rattle.program_inspect.specs.Facts.{row_json}
use Rattle.program_inspect.proofs.json.more_rows.Given as goal

abbrev pub invariant-loop-row : goal.invariant-loop-row
invariant-loop-row l = l.out.items ≡ flat_map (λ r. 44 ∷ row_json l.kind r) (take l.row-index l.rows)
