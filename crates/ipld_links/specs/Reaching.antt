-- The blocks that links lead to, whatever stores them.
use Rattle.std.specs.Prelude.{◌≡◌, ◌↔◌, ◌⊎◌, ℕ, zero, suc, List, [], ◌∷◌, ◌++◌, Bool, true, false, None, Some, is_some, Option, ⊤, Vec, option_map, MatchOption}
use Rattle.std.specs.List.{AllByRecursion}
use Rattle.std.specs.BTreeMap.{BTreeMap, get}
use Rattle.std.specs.declared.alloc.Global.{Global}
use Rattle.ipld_tree.specs.Cid.{CidParts, AreCidParts, cid_bytes, cid_cmp}
use Rattle.dagcbor_items.specs.Walks.{forms}
use Rattle.ipld_links.specs.Names.{IsInline}
use Rattle.ipld_links.specs.Blocks.{HasLinks, HasKnownLinks}
use Rattle.ipld_links.specs.Verdicts.{HidesLinks}
use Rattle.ipld_links.specs.declared.verdict.Verdict.{Verdict}
use Rattle.ipld_links.specs.Sets.{Among}
use Rattle.ipld_links.specs.declared.reach.Walk.{Walk}

-- the bytes stored under each name
abbrev pub Stored : Type 0
Stored = CidParts → Option (List ℕ)

-- the bytes that a map stores under each name
abbrev pub stored_in : BTreeMap CidParts (Vec ℕ Global) → Stored
stored_in blocks name = option_map (λ v. v.items) (get cid_cmp blocks name)

-- bytes are stored under the name
abbrev pub IsThere : Stored → CidParts → Type 0
IsThere stored name = is_some (stored name) ≡ true

-- nothing is stored under the name, and it is not by the identity
abbrev pub IsLost : Stored → CidParts → Type 0
IsLost stored name = (stored name ≡ None) × ¬ IsInline name

-- the bytes stored under the name, or, if there are none, the digest of a name by the identity
abbrev pub AreBytesOf : Stored → CidParts → List ℕ → Type 0
AreBytesOf stored name b = (stored name ≡ Some b)
    ⊎ ((stored name ≡ None) × IsInline name × (name.digest ≡ b))

-- the links of the bytes under the name are known, if there are such bytes
abbrev pub KnowsLinks : Stored → CidParts → Type 0
KnowsLinks stored name = (b : List ℕ) → AreBytesOf stored name b → HasKnownLinks name.codec b

-- the bytes under the name have this verdict, and their links are not known
abbrev pub HidesLinksUnder : Stored → CidParts → Verdict → Type 0
HidesLinksUnder stored name verdict = (b : List ℕ) × AreBytesOf stored name b
    × HidesLinks name.codec b verdict

-- the bytes under the name are a block that has these links
abbrev pub NamesLinks : Stored → CidParts → List (List ℕ) → Type 0
NamesLinks stored name links = (b : List ℕ) × AreBytesOf stored name b × HasLinks name.codec b links

-- the block under the first name has a link to the second
abbrev pub LeadsTo : Stored → CidParts → CidParts → Type 0
LeadsTo stored name next = AreCidParts next
    × ((links : List (List ℕ)) × NamesLinks stored name links × Among (cid_bytes next) links)

-- n links lead from the root to the name
abbrev pub IsStepsFrom : Stored → CidParts → ℕ → CidParts → Type 0
IsStepsFrom stored root zero name = name ≡ root
IsStepsFrom stored root (suc n) name = (mid : CidParts) × IsStepsFrom stored root n mid
    × LeadsTo stored mid name

-- some number of links leads from the root to the name
abbrev pub LeadsFar : Stored → CidParts → CidParts → Type 0
LeadsFar stored root name = (n : ℕ) × IsStepsFrom stored root n name

-- nothing is in the list twice
abbrev pub NoneTwice : {X : Type 0} → List X → Type 0
NoneTwice [] = ⊤
NoneTwice (x ∷ xs) = ¬ Among x xs × NoneTwice xs

-- the list has exactly the names of which `IsListed` holds, each once
pub record Lists (IsListed : CidParts → Type 0) (names : List CidParts) : Type 0 where
  pub all : (q : CidParts) → Among q names ↔ IsListed q
  pub once : NoneTwice names

-- bytes are stored under the name, and links lead to it from the root
abbrev pub IsReachable : Stored → CidParts → CidParts → Type 0
IsReachable stored root name = IsThere stored name × LeadsFar stored root name

-- the list has the stored names that links lead to from the root, each once, the root first
pub record ListsReachable (stored : Stored) (root : CidParts) (names : List CidParts) : Type 0 where
  pub lists : Lists (IsReachable stored root) names
  pub first : IsThere stored root → (more : List CidParts) × (names ≡ root ∷ more)

-- the list has the lost names that links lead to from the root, each once
abbrev pub ListsLost : Stored → CidParts → List CidParts → Type 0
ListsLost stored root names = Lists (λ q. IsLost stored q × LeadsFar stored root q) names

-- the stored names that links lead to from the root,
-- and the lost ones; the links of each are known
pub record ReachesKnown (stored : Stored) (root : CidParts) (found lost : List CidParts) : Type 0 where
  pub reachable : ListsReachable stored root found
  pub lacking : ListsLost stored root lost
  pub known : (q : CidParts) → LeadsFar stored root q → KnowsLinks stored q

-- links lead from the root to the name, whose links are not known, by this verdict
abbrev pub IsHiddenFrom : Stored → CidParts → CidParts × Verdict → Type 0
IsHiddenFrom stored root p = LeadsFar stored root p.0 × HidesLinksUnder stored p.0 p.1

-- ---- the walk

-- the name was seen, or waits to be visited
abbrev pub Covers : List CidParts → List CidParts → CidParts → Type 0
Covers seen waiting q = Among q seen ⊎ Among q waiting

-- the invariant of a walk from the root: the names it saw, those that wait,
-- and of those it saw the found and the lost ones
pub record IsWalked (stored : Stored) (root : CidParts)
    (seen waiting found lost : List CidParts) : Type 0 where
  pub begun : Covers seen waiting root
  pub next : (q r : CidParts) → Among q seen → LeadsTo stored q r → Covers seen waiting r
  pub stepped : (q : CidParts) → Covers seen waiting q → LeadsFar stored root q
  pub valid : (q : CidParts) → Covers seen waiting q → AreCidParts q
  pub finds : Lists (λ q. Among q seen × IsThere stored q) found
  pub loses : Lists (λ q. Among q seen × IsLost stored q) lost
  -- nothing was seen yet; or the root was found first, if it is stored
  pub first : ((seen ≡ []) × (waiting ≡ root ∷ []))
      ⊎ (IsThere stored root → (more : List CidParts) × (found ≡ root ∷ more))

-- the invariant of a walk from the root, between two visits
abbrev pub Walks : Stored → CidParts → Walk → Type 0
Walks stored root walk =
    IsWalked stored root walk.seen.keys walk.waiting.items walk.found.items walk.lost.items

-- the invariant of a walk after `next` returned this name, which is not visited yet
abbrev pub WalksAt : Stored → CidParts → CidParts → Walk → Type 0
WalksAt stored root name walk = ¬ Among name walk.seen.keys
    × IsWalked stored root walk.seen.keys (walk.waiting.items ++ name ∷ []) walk.found.items
    walk.lost.items

-- the walk is over: it saw each name that links lead to, and listed the found and the lost
-- ones
abbrev pub IsWalkOver : Stored → CidParts → Walk → Type 0
IsWalkOver stored root walk = ListsReachable stored root walk.found.items
    × ListsLost stored root walk.lost.items
    × ((q : CidParts) → LeadsFar stored root q → Among q walk.seen.keys)

-- the next name is to be visited, or the walk is over
abbrev pub GoesOn : Walk → Option CidParts → Walk → Type 0
GoesOn old result new = (stored : Stored) (root : CidParts) → Walks stored root old
    → MatchOption result (IsWalkOver stored root new) (λ name. WalksAt stored root name new)

-- the name is visited, with the bytes stored under it
abbrev pub Visits : CidParts → Option (List ℕ) → Walk → Walk → Type 0
Visits name block old new = (stored : Stored) (root : CidParts) → stored name ≡ block
    → WalksAt stored root name old → Walks stored root new

-- the names seen are the old ones and this one
abbrev pub SeesAlso : CidParts → Walk → Walk → Type 0
SeesAlso name old new = (q : CidParts) → Among q new.seen.keys ↔ (Among q old.seen.keys ⊎ (q ≡ name))

-- ---- its steps

-- `IsSo` holds of the links; or there are no links, and it holds of no list of links
abbrev pub AreLinksOf : (List (List ℕ) → Type 0) → List CidParts → Type 0
AreLinksOf IsSo links = IsSo (forms links)
    ⊎ ((links ≡ []) × ((all : List (List ℕ)) → ¬ IsSo all))

-- the links are CIDs, and were appended to the list
abbrev pub PushesAll : List CidParts → List CidParts → List CidParts → Type 0
PushesAll links old new = AllByRecursion AreCidParts links × (new ≡ old ++ links)

-- the name was added to those seen, and the rest of the walk is unchanged
pub record Sees (name : CidParts) (old new : Walk) : Type 0 where
  pub valid : AreCidParts name
  pub seen : SeesAlso name old new
  pub waiting : new.waiting ≡ old.waiting
  pub found : new.found ≡ old.found
  pub lost : new.lost ≡ old.lost

-- the name is found if bytes are stored under it, else lost, unless it is by the identity
abbrev pub Sorts : CidParts → Bool → List CidParts → List CidParts → List CidParts
    → List CidParts → Type 0
Sorts name is_there found lost more others =
    ((is_there ≡ true) × (more ≡ found ++ name ∷ []) × (others ≡ lost))
    ⊎ ((is_there ≡ false) × (IsInline name) × (more ≡ found) × (others ≡ lost))
    ⊎ ((is_there ≡ false) × (¬ IsInline name) × (more ≡ found) × (others ≡ lost ++ name ∷ []))

-- the name was listed as found or lost, and the rest of the walk is unchanged
pub record SortsOut (name : CidParts) (is_there : Bool) (old new : Walk) : Type 0 where
  pub seen : new.seen ≡ old.seen
  pub waiting : new.waiting ≡ old.waiting
  pub sorts : Sorts name is_there old.found.items old.lost.items new.found.items new.lost.items
