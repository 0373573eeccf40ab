use Rattle.std.proofs.Common.{Bor, List, ℕ, drop, map}
use Rattle.ipld_paths.specs.Parts.{EndsWith}
use Rattle.ipld_paths.proofs.Ends.{Walks}
use Rattle.ipld_paths.proofs.find.part_along.Given as goal

abbrev pub invariant-loop-segment : goal.invariant-loop-segment
invariant-loop-segment l = Walks l.bytes (map (λ (s : Bor (List ℕ)). s.now) l.segments) l.at (map (λ (s : Bor (List ℕ)). s.now) (drop l.segment-index l.segments)) × EndsWith l.bytes l.at
