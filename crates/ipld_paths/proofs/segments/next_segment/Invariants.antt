use Rattle.std.proofs.Common.{◌≡◌, length}
use denote.Text.{Utf8}
use denote.Shadow.{shadow}
use Rattle.ipld_paths.specs.Paths.{segments}
use Rattle.ipld_paths.specs.Parts.{EndsWith}
use Rattle.ipld_paths.proofs.segments.next_segment.Given as goal

abbrev pub invariant-loop-segment : goal.invariant-loop-segment
invariant-loop-segment l = shadow (Utf8 l.left) × (segments l.path ≡ segments l.left) × EndsWith l.path l.left

abbrev pub decreases-loop-segment : goal.decreases-loop-segment
decreases-loop-segment l = length l.left
