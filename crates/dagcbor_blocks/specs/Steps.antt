-- The steps of a store's calls.
use Rattle.std.specs.Prelude.{◌≡◌, ◌⊎◌, ◌↔◌, ℕ, List, [], ◌∷◌, None, Result, MatchResult, OnOk, ⊤}
use Rattle.std.specs.List.{AllByRecursion}
use Rattle.std.specs.BTreeMap.{BTreeMap, get}
use Rattle.serde_ipld_dagcbor.specs.Cid.{CidParts, AreCidParts, cid_cmp}
use Rattle.serde_ipld_dagcbor.specs.Tree.{Tree}
use Rattle.serde_ipld_dagcbor.specs.Spelling.{IsSpelling}
use Rattle.ipld_links.specs.Sets.{Among, members}
use Rattle.ipld_links.specs.declared.cid_set.CidSet.{CidSet}
use Rattle.ipld_links.specs.Blocks.{HasBlock}
use Rattle.dagcbor_blocks.specs.Blocks.{Held, ExceedsSteps, HoldsOther, HoldsAlso}
use Rattle.dagcbor_blocks.specs.declared.error.BlockError.{BlockError}
use Rattle.dagcbor_blocks.specs.declared.error.BlockError.TheVariants.{Decode, Collision, OutOfMemory}

-- ---- storing

-- the bytes are the spelling of a tree
abbrev pub HasTree : List ℕ → Type 0
HasTree b = (t : Tree) × IsSpelling b t

-- why a spelling is not a block
abbrev pub DepthRefused : List ℕ → BlockError → Type 0
DepthRefused b (Decode e) = (t : Tree) → IsSpelling b t → ExceedsSteps e t
DepthRefused b OutOfMemory = ⊤
DepthRefused b _ = ⊥

-- A spelling is validated as a block, or refused.
abbrev pub ChecksDepth : List ℕ → Result (Unit {0}) BlockError → Type 0
ChecksDepth b result = MatchResult result (λ _. HasBlock b) (DepthRefused b)

-- why a block is not stored
abbrev pub StoreRefused : CidParts → List ℕ → Held → BlockError → Type 0
StoreRefused name b old Collision = HoldsOther name b old
StoreRefused name b old OutOfMemory = ⊤
StoreRefused name b old _ = ⊥

-- A block is stored under its name, which is returned. A refusal changes nothing.
abbrev pub StoresBlock : CidParts → List ℕ → Held → Result CidParts BlockError → Held → Type 0
StoresBlock name b old result new = MatchResult result
    (λ n. (n ≡ name) × HoldsAlso old ((name, b) ∷ []) new)
    (λ e. (new ≡ old) × StoreRefused name b old e)

-- ---- listing

-- the map has no entry at the name
abbrev pub IsUnheld : {X : Type 0} → BTreeMap CidParts X → CidParts → Type 0
IsUnheld blocks name = get cid_cmp blocks name ≡ None

-- The link is added to the set, if it names no entry of the map.
abbrev pub AddsOne : {X E : Type 0} → BTreeMap CidParts X → CidParts → CidSet
    → Result (Unit {0}) E → CidSet → Type 0
AddsOne blocks link old result new = OnOk result (AreCidParts link × ((q : CidParts) → Among q (members new) ↔ (Among q (members old) ⊎ ((q ≡ link) × IsUnheld blocks q))))

-- The links that name no entry of the map are added to the set.
abbrev pub AddsMissing : {X E : Type 0} → BTreeMap CidParts X → List CidParts → CidSet
    → Result (Unit {0}) E → CidSet → Type 0
AddsMissing blocks links old result new = OnOk result (AllByRecursion AreCidParts links × ((q : CidParts) → Among q (members new) ↔ (Among q (members old) ⊎ (Among q links × IsUnheld blocks q))))
