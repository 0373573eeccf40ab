use denote.Text.{Utf8}
use denote.Shadow.{shadow}
use Rattle.ipld_paths.specs.Paths.{segments}
use Rattle.ipld_links.specs.Reaching.{stored_in}
use Rattle.ipld_paths.proofs.Ways.{Led}
use Rattle.ipld_paths.proofs.resolution.resolve.Given as goal

abbrev pub invariant-loop-count : goal.invariant-loop-count
invariant-loop-count l = shadow (Utf8 l.left) × Led (stored_in l.blocks) l.root (segments l.path) l._count l.block (segments l.left)
