-- Why changes are not undone on a tree.
use Rattle.std.specs.Prelude.{◌⊎◌, List}
use Rattle.ipld_tree.specs.Cid.{CidParts}
use Rattle.ipld_links.specs.Reaching.{Stored}
use Rattle.atproto_mst.specs.Changes.{Changed}
use Rattle.atproto_events.specs.Pieces.{PieceParts, OpensTree}
use Rattle.atproto_events.specs.Opening.{TreeFault}
use Rattle.atproto_events.specs.Undone.{StepsBackAll, StepsFault}
use Rattle.atproto_events.specs.Naming.{RootFault}
use Rattle.atproto_events.specs.declared.error.UndoError.{UndoError}

-- The tree is not opened; or one of the changes is not undone; or the root before is not computed.
abbrev pub UndoRefused : Stored → CidParts → List Changed → UndoError → Type 0
UndoRefused stored root cs e = TreeFault stored root e
    ⊎ ((ps : List PieceParts) × OpensTree stored root ps × (StepsFault cs ps e
    ⊎ ((qs : List PieceParts) × StepsBackAll cs ps qs × RootFault qs e)))
