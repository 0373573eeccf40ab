use denote.Text.{Utf8}
use denote.Shadow.{shadow}
use Rattle.std.proofs.Common.{length}
use Rattle.ipld_paths.specs.Paths.{segments}
use Rattle.ipld_links.specs.Reaching.{stored_in}
use Rattle.program_parts.proofs.Paths.{GoesOn}
use Rattle.program_parts.proofs.file_names.find_named.Given as goal

abbrev pub invariant-loop-name : goal.invariant-loop-name
invariant-loop-name l = shadow (Utf8 l.left) × GoesOn (stored_in l.blocks) l.root (segments l.path) l.block (segments l.left)

abbrev pub decreases-loop-name : goal.decreases-loop-name
decreases-loop-name l = length (segments l.left)
