-- What holds of pieces and the entries that they stand for.
use Rattle.std.specs.Prelude.{◌≡◌, List, None}
use Rattle.ipld_tree.specs.Cid.{CidParts}
use Rattle.ipld_links.specs.Reaching.{Stored}
use Rattle.atproto_mst.specs.Keys.{Entry, HaveRisingKeys}
use Rattle.atproto_mst.specs.Trees.{root_of, nodes_of}
use Rattle.atproto_mst.specs.Changes.{Changed}
use Rattle.atproto_mst.specs.Differing.{IsRootOfEntries, NamesBind}
use Rattle.atproto_events.specs.Pieces.{PieceParts, Fills, OpensTree}
use Rattle.atproto_events.specs.Doing.{Does, turned, LeadsFrom}
use Rattle.atproto_events.specs.Undone.{StepsBack, StepsBackAll}
use Rattle.atproto_events.specs.Naming.{NamesRoot}
use Rattle.atproto_events.specs.Refusing.{UndoRefused}
use Rattle.atproto_events.specs.declared.error.UndoError.TheVariants.{MissingNode}

-- A change undone on pieces is undone on any entries that they stand for; redone, it leads back.
abbrev pub StepsUndo : Type 0
StepsUndo = (c : Changed) (old new : List PieceParts) (es : List Entry) → StepsBack c old new → Fills old es
    → HaveRisingKeys es → (before : List Entry) × Fills new before × HaveRisingKeys before × Does c before es
    × Does (turned c) es before

-- The pieces of an opened tree stand for its entries, if names bind.
abbrev pub OpenedFill : Type 0
OpenedFill = (stored : Stored) (root : CidParts) (ps : List PieceParts) (es : List Entry)
    → OpensTree stored root ps → IsRootOfEntries root es → NamesBind stored (nodes_of es) → Fills ps es

-- A root that is computed from pieces is that of any entries that they stand for.
abbrev pub NamedRight : Type 0
NamedRight = (ps : List PieceParts) (root : CidParts) (es : List Entry) → NamesRoot ps root → Fills ps es
    → root ≡ root_of es

-- If a tree is opened, the changes are undone on its pieces, and a root is computed from these,
-- then the changes lead from that root to the tree.
abbrev pub UndoneRight : Type 0
UndoneRight = (stored : Stored) (root old : CidParts) (cs : List Changed) (ps qs : List PieceParts)
    → OpensTree stored root ps → StepsBackAll cs ps qs → NamesRoot qs old → LeadsFrom stored old cs root

-- A node that is reported as missing is not stored.
abbrev pub MissingIsLost : Type 0
MissingIsLost = (stored : Stored) (root : CidParts) (cs : List Changed) (name : CidParts)
    → UndoRefused stored root cs (MissingNode name) → stored name ≡ None
