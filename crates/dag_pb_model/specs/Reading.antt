-- Reading the front of a data model's block, part by part. No public contract names these
-- definitions.
use Rattle.std.specs.Prelude.{◌≡◌, ℕ, pos, ◌≤◌, Bool, List, [], ◌++◌, length, Option, None, Some, codes, map, flat_map, MatchBool}
use Rattle.std.specs.List.{AllByRecursion}
use Rattle.dagcbor_core.specs.Splits.{SplitsHead}
use Rattle.ipld_tree.specs.Cid.{AreCidParts}
use Rattle.ipld_tree.specs.Tree.{Tree, Items, integer, text, bytes, items_of}
use Rattle.ipld_tree.specs.Spelling.{IsFront, AreFronts, text_spelling}
use Rattle.dag_pb.specs.Node.{LinkParts, NodeParts}
use Rattle.dag_pb.specs.Spelling.{link_spelling, node_spelling, AreSorted, IsSpellableLink, IsSpellable}
use Rattle.lent_memory.specs.Puts.{with_front, PutsAt}
use Rattle.dag_pb_model.specs.Model.{link_model, node_model}

-- the bytes are this entry of a map, and then the rest
abbrev pub IsEntry : List ℕ → List ℕ → Tree → List ℕ → Type 0
IsEntry b key t rest = (following : List ℕ) × (b ≡ text_spelling key ++ following) × IsFront following t rest

-- the bytes begin with the name and size of a link of `count` entries, that of its CID included
abbrev pub AreEnds : ℕ → List ℕ → Option (List ℕ) → Option ℕ → List ℕ → Type 0
AreEnds count b None None rest = (count ≡ 1) × (b ≡ rest)
AreEnds count b (Some name) None rest = (count ≡ 2) × IsEntry b (codes "Name") (text name) rest
AreEnds count b None (Some n) rest = (count ≡ 2) × IsEntry b (codes "Tsize") (integer (pos n)) rest
AreEnds count b (Some name) (Some n) rest = (count ≡ 3)
    × ((following : List ℕ) × IsEntry b (codes "Name") (text name) following
    × IsEntry following (codes "Tsize") (integer (pos n)) rest)

-- the bytes do not begin with the name and size of such a link
abbrev pub HasNoEnds : ℕ → List ℕ → Type 0
HasNoEnds count b = (name : Option (List ℕ)) (tsize : Option ℕ) (rest : List ℕ)
    → ¬ AreEnds count b name tsize rest

-- the bytes are the data model of this link, and then the rest
abbrev pub IsLinkModel : List ℕ → LinkParts → List ℕ → Type 0
IsLinkModel b l rest = AreCidParts l.hash × IsFront b (link_model l) rest

-- the bytes do not begin with a link's data model
abbrev pub BeginsNoLinkModel : List ℕ → Type 0
BeginsNoLinkModel b = (l : LinkParts) (rest : List ℕ) → ¬ IsFront b (link_model l) rest

-- ---- nodes

-- the list items of these links
abbrev pub link_models : List LinkParts → Items
link_models ls = items_of (map link_model ls)

-- the bytes begin with the entry of the links, up to the head of their list
abbrev pub IsLinksFront : List ℕ → ℕ → List ℕ → Type 0
IsLinksFront b count rest = (following : List ℕ) × (b ≡ text_spelling (codes "Links") ++ following)
    × SplitsHead following 4 count rest

-- the bytes begin with the data of a node of this many entries, and the front of its links
abbrev pub AreNodeEnds : ℕ → List ℕ → Option (List ℕ) → ℕ → List ℕ → Type 0
AreNodeEnds entries b None count rest = (entries ≡ 1) × IsLinksFront b count rest
AreNodeEnds entries b (Some inner) count rest = (entries ≡ 2)
    × ((following : List ℕ) × IsEntry b (codes "Data") (bytes inner) following
    × IsLinksFront following count rest)

-- the bytes begin with a node's data model, up to the head of the list of its links
abbrev pub IsNodeFront : List ℕ → Option (List ℕ) → ℕ → List ℕ → Type 0
IsNodeFront b inner count rest = (entries : ℕ) × (following : List ℕ) × SplitsHead b 5 entries following
    × AreNodeEnds entries following inner count rest

-- the bytes are not a node's data model
abbrev pub HasNoNode : List ℕ → Type 0
HasNoNode b = (node : NodeParts) → ¬ IsFront b (node_model node) []

-- the bytes are the data models of these links, `count` in number
abbrev pub AreLinkModels : List ℕ → ℕ → List LinkParts → Type 0
AreLinkModels b count ls = (length ls ≡ count) × AreFronts b (link_models ls) []

-- the bytes are not the data models of `count` links
abbrev pub AreNoLinkModels : List ℕ → ℕ → Type 0
AreNoLinkModels b count = (ls : List LinkParts) → ¬ AreLinkModels b count ls

-- the bytes are the data models of `count` links; their fields take `size` bytes, sorted or not
pub record AreMeasured (b : List ℕ) (count size : ℕ) (sorted : Bool) : Type 0 where
  pub links : List LinkParts
  pub there : AreLinkModels b count links
  pub spellable : AllByRecursion IsSpellableLink links
  pub size_is : size ≡ length (flat_map link_spelling links)
  pub few : size ≤ length b
  pub sorted_is : MatchBool sorted (AreSorted links) (¬ AreSorted links)

-- ---- writing nodes

-- the memory has room for the links with these data models
abbrev pub HasRoomForLinks : List ℕ → List ℕ → Type 0
HasRoomForLinks b old = (ls : List LinkParts) × AreFronts b (link_models ls) []
    × AllByRecursion IsSpellableLink ls × (length (flat_map link_spelling ls) ≤ length old)

-- the links were written at the front of the memory, up to this place
abbrev pub FillsLinks : List ℕ → List ℕ → List ℕ → ℕ → Type 0
FillsLinks b old new end = (ls : List LinkParts) → AreFronts b (link_models ls) []
    → AllByRecursion IsSpellableLink ls → PutsAt (flat_map link_spelling ls) 0 old new end

-- the node of these links and this data
abbrev pub node_with : List LinkParts → Option (List ℕ) → NodeParts
node_with ls inner = record { links = ls; «data» = inner }

-- the memory has room for the node with this data and the links with these data models
abbrev pub HasRoomForNode : Option (List ℕ) → List ℕ → List ℕ → Type 0
HasRoomForNode inner b old = (ls : List LinkParts) × AreFronts b (link_models ls) []
    × AllByRecursion IsSpellableLink ls × (length (node_spelling (node_with ls inner)) ≤ length old)

-- the node was written at the front of the memory
abbrev pub FillsNode : Option (List ℕ) → List ℕ → List ℕ → List ℕ → Type 0
FillsNode inner b old new = (ls : List LinkParts) → AreFronts b (link_models ls) []
    → AllByRecursion IsSpellableLink ls → new ≡ with_front (node_spelling (node_with ls inner)) old

-- the bytes are the data model of a node with this data; its links' data
-- models are the rest; its block takes `size` bytes
pub record IsMeasuredModel (b : List ℕ) (inner : Option (List ℕ)) (rest : List ℕ) (size : ℕ) (sorted : Bool) : Type 0 where
  pub links : List LinkParts
  pub whole : IsFront b (node_model (node_with links inner)) []
  pub spellable : IsSpellable (node_with links inner)
  pub there : AreFronts rest (link_models links) []
  pub size_is : size ≡ length (node_spelling (node_with links inner))
  pub sorted_is : MatchBool sorted (AreSorted links) (¬ AreSorted links)
