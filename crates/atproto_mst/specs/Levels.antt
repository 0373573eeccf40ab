-- A level of a walk down a tree: entries, and links to the subtrees between them.
use Rattle.std.specs.Prelude.{◌≡◌, ◌⊎◌, ◌↔◌, ◌&&◌, ℕ, Bool, true, false, List, [], ◌∷◌, ◌++◌, Option, None, Some, ⊤}
use Rattle.ipld_tree.specs.Cid.{CidParts}
use Rattle.ipld_links.specs.Sets.{Among}
use Rattle.ipld_links.specs.Reaching.{Stored}
use Rattle.atproto_mst.specs.Keys.{Entry}
use Rattle.atproto_mst.specs.Entries.{entry_of}
use Rattle.atproto_mst.specs.Nodes.{NodeRow, NodeParts, IsNodeAt, key_of_row}
use Rattle.atproto_mst.specs.Stops.{NodeFault}
use Rattle.atproto_mst.specs.declared.error.MstError.{MstError}
use Rattle.atproto_mst.specs.declared.error.MstError.TheVariants as error
use Rattle.atproto_mst.specs.declared.levels.Level.{Level}
use Rattle.atproto_mst.specs.declared.levels.LevelEntry.{LevelEntry}

-- an entry, or a link to the subtree between its neighbours
pub data LevelItem : Type 0 where
  an_entry : Entry → LevelItem
  a_link : CidParts → LevelItem

abbrev pub link_items : Option CidParts → List LevelItem
link_items None = []
link_items (Some name) = a_link name ∷ []

-- the items of rows after a key
abbrev pub row_items : List ℕ → List NodeRow → List LevelItem
row_items previous [] = []
row_items previous (r ∷ rs) = an_entry (key_of_row previous r, r.value)
    ∷ (link_items r.after ++ row_items (key_of_row previous r) rs)

abbrev pub node_items : NodeParts → List LevelItem
node_items p = link_items p.left ++ row_items [] p.rows

abbrev pub held_items : List LevelEntry → List LevelItem
held_items [] = []
held_items (h ∷ hs) = an_entry (entry_of h.entry) ∷ (link_items h.after ++ held_items hs)

abbrev pub level_items : Level → List LevelItem
level_items l = link_items l.left ++ held_items l.entries.items

-- the names of the links among the items
abbrev pub link_names : List LevelItem → List CidParts
link_names [] = []
link_names (an_entry e ∷ xs) = link_names xs
link_names (a_link name ∷ xs) = name ∷ link_names xs

-- ---- a level down

-- An entry stays. A dropped link goes; any other link becomes the items of its node.
abbrev pub OpensItem : Stored → List CidParts → LevelItem → List LevelItem → Type 0
OpensItem stored dropped (an_entry e) xs = xs ≡ an_entry e ∷ []
OpensItem stored dropped (a_link name) xs = (Among name dropped × (xs ≡ []))
    ⊎ ((¬ Among name dropped) × ((p : NodeParts) × IsNodeAt stored name p × (xs ≡ node_items p)))

-- each of the items, in order
abbrev pub OpensItems : Stored → List CidParts → List LevelItem → List LevelItem → Type 0
OpensItems stored dropped [] xs = xs ≡ []
OpensItems stored dropped (y ∷ ys) xs = (first more : List LevelItem) × OpensItem stored dropped y first
    × OpensItems stored dropped ys more × (xs ≡ first ++ more)

-- each of the items if asked for; otherwise they stay
abbrev pub OpensIf : Stored → List CidParts → Bool → List LevelItem → List LevelItem → Type 0
OpensIf stored dropped true ys xs = OpensItems stored dropped ys xs
OpensIf stored dropped false ys xs = xs ≡ ys

-- the names that both levels have if both are opened; otherwise the empty list
abbrev pub DropsShared : Bool → List CidParts → List CidParts → List CidParts → Type 0
DropsShared true names others dropped = (q : CidParts)
    → Among q dropped ↔ (Among q names × Among q others)
DropsShared false names others dropped = dropped ≡ []

-- one level down in each of two trees, where it is asked for
pub record StepsDown (stored : Stored) (asked : Bool × Bool)
    (before after below others : List LevelItem) : Type 0 where
  pub dropped : List CidParts
  pub drops : DropsShared (asked.0 && asked.1) (link_names before) (link_names after) dropped
  pub one : OpensIf stored dropped asked.0 before below
  pub other : OpensIf stored dropped asked.1 after others

-- the error concerns the keys or the shape of a tree
abbrev pub IsOfShape : MstError → Type 0
IsOfShape error.OutOfMemory = ⊥
IsOfShape (error.MissingNode name) = ⊥
IsOfShape (error.OtherBytes name) = ⊥
IsOfShape (error.NoNode name) = ⊥
IsOfShape _ = ⊤

-- out of memory, wrong keys or a wrong shape, or a link that leads to no node
abbrev pub LevelLinksRefused : Stored → List CidParts → MstError → Type 0
LevelLinksRefused stored names e = (e ≡ error.OutOfMemory)
    ⊎ (IsOfShape e ⊎ ((name : CidParts) × Among name names × NodeFault stored name e))
