-- Links within links: a name by the identity holds its block itself, and that block can have links.
use Rattle.std.specs.Prelude.{◌≡◌, ◌↔◌, ◌⊎◌, ℕ, zero, suc, ◌≤◌, List, Result, OnOk}
use Rattle.ipld_tree.specs.Cid.{CidParts, AreCidParts, cid_bytes}
use Rattle.dagcbor_core.specs.Steps.{default_steps}
use Rattle.ipld_tree.specs.Tree.{Tree, any_need, links_of}
use Rattle.ipld_tree.specs.Spelling.{IsFront}
use Rattle.std.specs.List.{AllByRecursion}
use Rattle.dagcbor_items.specs.Walks.{forms}
use Rattle.ipld_links.specs.Blocks.{HasLinks}
use Rattle.ipld_links.specs.Names.{IsInline}
use Rattle.ipld_links.specs.Sets.{Among, members}
use Rattle.ipld_links.specs.Held.{IsHeldName}
use Rattle.ipld_links.specs.declared.cid_set.CidSet.{CidSet}
use Rattle.ipld_links.specs.declared.held.HeldNames.{HeldNames}

-- the binary form is that of a name that holds its block itself
abbrev pub IsInlineForm : List ℕ → Type 0
IsInlineForm form = (c : CidParts) × AreCidParts c × (form ≡ cid_bytes c) × IsInline c

-- the link's name holds a block itself, and that block has these links
abbrev pub HoldsBlock : List ℕ → List (List ℕ) → Type 0
HoldsBlock link links = (c : CidParts) × AreCidParts c × (link ≡ cid_bytes c) × IsInline c
    × HasLinks c.codec c.digest links

-- the binary form is that of a link n blocks deep in this one: of the link itself, or of a link in
-- the block that its name holds, and so on
abbrev pub IsLinkWithin : ℕ → List ℕ → List ℕ → Type 0
IsLinkWithin zero link form = form ≡ link
IsLinkWithin (suc n) link form = (links : List (List ℕ)) × (inner : List ℕ) × HoldsBlock link links
    × Among inner links × IsLinkWithin n inner form

-- the binary form is that of one of the links, or of a link within one
abbrev pub IsReached : List ℕ → List (List ℕ) → Type 0
IsReached form links = (link : List ℕ) × (n : ℕ) × Among link links × IsLinkWithin n link form

-- ---- sets of reached names

-- the CID is reached from the links, and does not hold its block itself
abbrev pub IsReachedName : CidParts → List (List ℕ) → Type 0
IsReachedName q links = AreCidParts q × ¬ IsInline q × IsReached (cid_bytes q) links

-- the new members are the old ones, and this CID, if it is not in `held`
abbrev pub AddsUnheld : CidParts → HeldNames → CidSet → CidSet → Type 0
AddsUnheld c held old new = AreCidParts c
    × ((q : CidParts) → Among q (members new) ↔ (Among q (members old) ⊎ ((q ≡ c) × ¬ IsHeldName q held)))

-- the new members are the old ones, and the names reached from the links that are not in `held`
abbrev pub AddsReached : List (List ℕ) → HeldNames → CidSet → CidSet → Type 0
AddsReached links held old new = (q : CidParts)
    → Among q (members new) ↔ (Among q (members old) ⊎ (IsReachedName q links × ¬ IsHeldName q held))

-- the links are CIDs, and the names reached from them that are not in `held` became members
abbrev pub AddsAll : List CidParts → HeldNames → CidSet → CidSet → Type 0
AddsAll cids held old new = AllByRecursion AreCidParts cids × AddsReached (forms cids) held old new

-- the list has exactly the names that are reached from the links
abbrev pub ListsReached : List CidParts → List (List ℕ) → Type 0
ListsReached names links = (q : CidParts) → Among q names ↔ IsReachedName q links

-- the bytes begin with a tree that is read within
-- `default_steps`, and these names are reached from its links
abbrev pub AreFirstNames : List ℕ → List CidParts → Type 0
AreFirstNames b names = (t : Tree) × (rest : List ℕ) × IsFront b t rest
    × (any_need t ≤ default_steps) × ListsReached names (links_of t)

-- the new members are the old ones, and the names reached from the block's links, not in `held`
abbrev pub AddsLinks : {E : Type 0} → ℕ → List ℕ → HeldNames → CidSet → Result (Unit {0}) E → CidSet
    → Type 0
AddsLinks codec b held old result new = OnOk result
    ((links : List (List ℕ)) × HasLinks codec b links × AddsReached links held old new)

-- these are the names that are reached from the links of the block
abbrev pub AreNamesOf : ℕ → List ℕ → List CidParts → Type 0
AreNamesOf codec b names = (links : List (List ℕ)) × HasLinks codec b links × ListsReached names links
