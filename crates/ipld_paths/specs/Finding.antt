-- Finding what a path leads to in a block.
use Rattle.std.specs.Prelude.{◌≡◌, ◌≢◌, ℕ, List, [], ◌∷◌, ◌++◌, length, Option, None, Some, MatchOption, ⊤}
use Rattle.ipld_tree.specs.Cid.{CidParts, AreCidParts, cid_bytes}
use Rattle.ipld_tree.specs.Tree.{Tree, link}
use Rattle.dagcbor_decode.specs.Blocks.{IsBlock}
use Rattle.dagcbor_decode.specs.TreeKinds.{kind_of}
use Rattle.ipld_paths.specs.Paths.{segments, IsPart, At}
use Rattle.ipld_paths.specs.Parts.{BeginsWithTree, EndsWith, GivesPart}
use Rattle.ipld_paths.specs.declared.find.Item.{Item}
use Rattle.ipld_paths.specs.declared.find.Stop.{Stop}
use Rattle.ipld_paths.specs.declared.find.Found.{Found}
use Rattle.ipld_paths.specs.declared.find.Found.TheVariants as found

-- ---- one item

-- the part begins at this place of the bytes
abbrev pub StandAt : List ℕ → ℕ → List ℕ → Type 0
StandAt b place part = (before following : List ℕ) × (b ≡ before ++ (part ++ following)) × (length before ≡ place)

-- the item has the tree's kind; its bytes are a block of the tree, and are at its place
pub record IsItem (b : List ℕ) (t : Tree) (item : Item) : Type 0 where
  pub kind : item.kind ≡ kind_of t
  pub block : IsBlock item.bytes.now t
  pub place : StandAt b item.place item.bytes.now

-- the path leads from the block's tree to the item's tree; or it leads to none (`None`)
abbrev pub FindsItemIn : List ℕ → List (List ℕ) → Option Item → Type 0
FindsItemIn b path None = (t : Tree) × IsBlock b t × ((u : Tree) → ¬ At path t u)
FindsItemIn b path (Some item) = (t u : Tree) × IsBlock b t × At path t u × IsItem b u item

-- the part to which the path leads from the tree at the front; or it leads to none
abbrev pub FindsAlong : {A : Type 0} → (A → List ℕ) → List ℕ → List (List ℕ) → Option A → Type 0
FindsAlong bytes_of b path result = (t : Tree) → BeginsWithTree b t → GivesPart bytes_of (At path t) result

-- ---- how far the path leads

-- A first part of the path leads from the block's tree t to u, and the segments `left` are left.
pub record LeadsInto (b : List ℕ) (path left : List (List ℕ)) (t u : Tree) : Type 0 where
  pub block : IsBlock b t
  pub passed : List (List ℕ)
  pub whole : path ≡ passed ++ left
  pub leads : At passed t u

-- there is a first segment, and it leads from the tree to no part
abbrev pub HasNoPart : List (List ℕ) → Tree → Type 0
HasNoPart [] u = ⊥
HasNoPart (segment ∷ more) u = (part : Tree) → ¬ IsPart segment u part

-- The path leads to the item; or a first part of it leads to a link, with segments left; or a first
-- part leads to an item that is not a link, and the next segment leads nowhere.
abbrev pub IsFoundIn : List ℕ → List (List ℕ) → Found → Type 0
IsFoundIn b path (found.Item item) = FindsItemIn b path (Some item)
IsFoundIn b path (found.Link cid left) = (t : Tree) × AreCidParts cid
    × LeadsInto b path (segments left.now) t (link (cid_bytes cid)) × (segments left.now ≢ [])
IsFoundIn b path (found.Nothing left) = (t u : Tree) × LeadsInto b path (segments left.now) t u
    × HasNoPart (segments left.now) u × ((cid : List ℕ) → u ≢ link cid)

-- ---- the walk

-- no segment is left, or the first one leads nowhere
abbrev pub EndsWay : List (List ℕ) → Tree → Type 0
EndsWay [] u = ⊤
EndsWay (segment ∷ more) u = (part : Tree) → ¬ IsPart segment u part

-- The last item to which a first part of the path leads in the block, and the rest of the path.
pub record StopsInBlock (b path : List ℕ) (stop : Stop) : Type 0 where
  pub tree : Tree
  pub found : Tree
  pub led : LeadsInto b (segments path) (segments stop.left.now) tree found
  pub stopped : EndsWay (segments stop.left.now) found
  pub item : IsItem b found stop.item
  pub following : EndsWith path stop.left.now

-- a first part of the path leads from t to u, which begins at these bytes
pub record Walked (t : Tree) (path left : List (List ℕ)) (u : Tree) (at : List ℕ) : Type 0 where
  pub passed : List (List ℕ)
  pub whole : path ≡ passed ++ left
  pub leads : At passed t u
  pub begins : BeginsWithTree at u

-- the path was followed as far as it leads from the tree at the front
abbrev pub FollowsPath : List ℕ → List (List ℕ) → List ℕ → List (List ℕ) → Type 0
FollowsPath b path at left = (t : Tree) → BeginsWithTree b t
    → (u : Tree) × Walked t path left u at × EndsWay left u

-- the item at the front of these last bytes of the block
abbrev pub TellsItem : List ℕ → List ℕ → Option Item → Type 0
TellsItem b at result = (t : Tree) → BeginsWithTree at t → MatchOption result ⊥ (λ item. IsItem b t item)

-- the CID of the link at the front; `None` if the tree is not a link
abbrev pub TellsLink : List ℕ → Option CidParts → Type 0
TellsLink b result = (t : Tree) → BeginsWithTree b t
    → MatchOption result ((cid : List ℕ) → t ≢ link cid) (λ c. AreCidParts c × (t ≡ link (cid_bytes c)))

-- the answer, if the walk along a path ended at these bytes
abbrev pub AnswersEnd : List ℕ → List ℕ → List (List ℕ) → Found → Type 0
AnswersEnd b at left result = (path : List (List ℕ)) → FollowsPath b path at left → (t : Tree) → IsBlock b t
    → IsFoundIn b path result
