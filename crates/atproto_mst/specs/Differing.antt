-- The differences between two trees, if the subtrees that both have may not be stored.
use Rattle.std.specs.Prelude.{◌≡◌, ◌⊎◌, ℕ, zero, suc, List, ◌∷◌, ◌++◌, map, Some}
use Rattle.ipld_tree.specs.Cid.{CidParts}
use Rattle.files_car.specs.Car.{Section}
use Rattle.ipld_links.specs.Names.{block_name}
use Rattle.ipld_links.specs.Sets.{Among}
use Rattle.ipld_links.specs.Reaching.{Stored}
use Rattle.atproto_mst.specs.Keys.{Entry, AreMstEntries}
use Rattle.atproto_mst.specs.Trees.{root_of, nodes_of}
use Rattle.atproto_mst.specs.Entries.{IsMst}
use Rattle.atproto_mst.specs.Nodes.{NodeParts, IsNodeAt}
use Rattle.atproto_mst.specs.Walks.{most_layers}
use Rattle.atproto_mst.specs.Stops.{NodeFault, MstRefused}
use Rattle.atproto_mst.specs.Changes.{Changed, AreChanges}
use Rattle.atproto_mst.specs.declared.error.MstError.{MstError}

-- the root is that of the tree of these entries
abbrev pub IsRootOfEntries : CidParts → List Entry → Type 0
IsRootOfEntries root es = AreMstEntries es × (root ≡ root_of es)

-- Two nodes of one name have the same block. Bytes that are stored under a node's name, and have
-- that name, are the node's block.
pub record NamesBind (stored : Stored) (nodes : List Section) : Type 0 where
  pub of_nodes : (s t : Section) → Among s nodes → Among t nodes → s.0 ≡ t.0 → s.1 ≡ t.1
  pub of_stored : (s : Section) (b : List ℕ) → Among s nodes → stored s.0 ≡ Some b
      → s.0 ≡ block_name b → b ≡ s.1

-- For any entries that have these roots, these are the changes between them, if names bind.
abbrev pub AreChangesOf : Stored → CidParts → CidParts → List Changed → Type 0
AreChangesOf stored old new cs = (es fs : List Entry) → IsRootOfEntries old es → IsRootOfEntries new fs
    → NamesBind stored (nodes_of es ++ nodes_of fs) → AreChanges es fs cs

-- ---- why they are not told

-- the name is a link of the node
abbrev pub HasLink : NodeParts → CidParts → Type 0
HasLink p name = Among (Some name) (p.left ∷ map (λ r. r.after) p.rows)

-- links of nodes lead from the root to the name, over at most the given number of names
abbrev pub IsLedTo : ℕ → Stored → CidParts → CidParts → Type 0
IsLedTo zero stored root name = ⊥
IsLedTo (suc m) stored root name = (name ≡ root)
    ⊎ ((above : CidParts) × IsLedTo m stored root above
    × ((p : NodeParts) × IsNodeAt stored above p × HasLink p name))

-- under one of the names that the root leads to there is no node, for this reason
abbrev pub LacksNode : Stored → CidParts → MstError → Type 0
LacksNode stored root e = (name : CidParts) × IsLedTo most_layers stored root name
    × NodeFault stored name e

-- a node of the first tree is not read; or its root is, but a node of the second is not
abbrev pub LacksOne : Stored → CidParts → CidParts → MstError → Type 0
LacksOne stored old new e = LacksNode stored old e
    ⊎ (((p : NodeParts) × IsNodeAt stored old p) × LacksNode stored new e)

-- a node of either tree is not read; or the first tree is refused; or only the second is
abbrev pub DiffRefused : Stored → CidParts → CidParts → MstError → Type 0
DiffRefused stored old new e = LacksOne stored old new e ⊎ (MstRefused stored old e
    ⊎ ((es : List Entry) × IsMst stored old es × MstRefused stored new e))
