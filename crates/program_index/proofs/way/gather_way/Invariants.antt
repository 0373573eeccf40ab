use Rattle.ipld_paths.specs.Paths.{segments}
use Rattle.ipld_links.specs.Reaching.{stored_in}
use Rattle.program_index.specs.Ways.{AreLedTo}
use Rattle.program_index.proofs.Growing.{LedOver}
use denote.Text.{Utf8}
use denote.Shadow.{shadow}
use Rattle.program_index.proofs.way.gather_way.Given as goal

abbrev pub invariant-loop-count : goal.invariant-loop-count
invariant-loop-count g l = shadow (Utf8 l.left) × AreLedTo (g.S.ReadAt.bytes l.source) (stored_in l.blocks)
    × LedOver (stored_in l.blocks) l.root (segments l.path) l._count l.name (segments l.left)
