-- The blocks of a store that links lead to from a root, and the CAR file of them.
use Rattle.std.specs.Prelude.{◌≡◌, ◌↔◌, ◌⊎◌, ℕ, List, [], ◌∷◌, ◌++◌, Option, None, Some, Result}
use Rattle.std.specs.Prelude.{Err, MatchResult, Bool, ⊤}
use Rattle.std.specs.BTreeSet.{BTreeSet}
use Rattle.sqlite_trees.specs.View.{View}
use Rattle.sqlite_trees.specs.declared.store.Store.{Ghosts}
use Rattle.dagcbor_heads.specs.Written.{Written}
use Rattle.ipld_tree.specs.Cid.{CidParts, cid_bytes}
use Rattle.files_car.specs.Car.{Section}
use Rattle.ipld_links.specs.Sets.{Among}
use Rattle.ipld_links.specs.Names.{IsInline}
use Rattle.ipld_links.specs.Blocks.{HasKnownLinks}
use Rattle.ipld_links.specs.Verdicts.{HidesLinks}
use Rattle.ipld_links.specs.declared.verdict.Verdict.{Verdict}
use Rattle.ipld_links.specs.Reaching.{Stored, LeadsFar, IsLost, ListsReachable, ListsLost, Walks}
use Rattle.ipld_links.specs.Reaching.{WalksAt, SeesAlso}
use Rattle.files_car.specs.Reached.{sections_at}
use Rattle.ipld_links.specs.declared.reach.Reached.{Reached}
use Rattle.ipld_links.specs.declared.reach.Walk.{Walk}
use Rattle.store_rows.specs.Rows.{IsStored}
use Rattle.store_on_disk.specs.Stored.{HoldsOnly, IsNamedBy, ListsName, IsDamaged, FindsSo, FailsByStore}
use Rattle.store_on_disk.specs.Walking.{WritesFile, WritesFirst, WriterStops, AppendsSection}
use Rattle.store_on_disk.specs.Walking.{SectionStops, FileUnsent}
use Rattle.store_on_disk.specs.declared.error.StoreRefusal.{StoreRefusal}
use Rattle.store_on_disk.specs.declared.error.StoreRefusal.TheVariants as refusal
use Rattle.store_on_disk.specs.declared.car_error.WriteCarError.{WriteCarError}
use Rattle.store_on_disk.specs.declared.car_error.WriteCarError.TheVariants as car
use Rattle.store_on_disk.specs.declared.car_error.WriteTreeError.{WriteTreeError}
use Rattle.store_on_disk.specs.declared.car_error.WriteTreeError.TheVariants as tree

-- the function gives the bytes that are stored under each name
abbrev pub ShowsStored : View → Stored → Type 0
ShowsStored v stored = (q : CidParts) (b : List ℕ)
    → (stored q ≡ Some b) ↔ IsStored v.trees (cid_bytes q) b

-- it is so of the bytes that are stored under each name
abbrev pub OfStored : View → (Stored → Type 0) → Type 0
OfStored v IsSo = (stored : Stored) → ShowsStored v stored → IsSo stored

-- ---- what a walk comes to

-- what is read under a name whose links are known: `None` if nothing is listed, or the bytes that
-- are stored under it, which match it
abbrev pub GetsKnown : View → CidParts → Option (List ℕ) → Type 0
GetsKnown v name None = (¬ ListsName v name) × (IsInline name → HasKnownLinks name.codec name.digest)
GetsKnown v name (Some b) = HoldsOnly v name b × IsNamedBy name b × HasKnownLinks name.codec b

-- the block under the name is not damaged, and its links are known
abbrev pub IsKnown : View → CidParts → Type 0
IsKnown v name = (o : Option (List ℕ)) × GetsKnown v name o

-- by the verdict on the block under the name, its links are not known
abbrev pub HidesLinksOf : View → CidParts → Verdict → Type 0
HidesLinksOf v name verdict = (b : List ℕ) × HidesLinks name.codec b verdict
    × ((HoldsOnly v name b × IsNamedBy name b)
    ⊎ ((¬ ListsName v name) × IsInline name × (name.digest ≡ b)))

-- a place at which a walk may stop: which names it may be at, and what is so of one
abbrev pub Place : Type 1
Place = View → CidParts → Type 0 → Type 0

-- A walk stopped at such a name: the block under it is damaged, or its links are not known. Or the
-- store failed.
abbrev pub StopsAt : {S : Type 0} → Ghosts S → Place → S → S → StoreRefusal → Type 0
StopsAt g At old new (refusal.Damaged n) = FindsSo g old new (λ v. At v n (IsDamaged v n))
StopsAt g At old new (refusal.LinksUnread n verdict) =
    FindsSo g old new (λ v. At v n (HidesLinksOf v n verdict))
StopsAt g At old new told = FailsByStore g ⊥ old new told

-- the place is this name alone
abbrev pub AtName : CidParts → Place
AtName name v n IsSo = (n ≡ name) × IsSo

-- the names of the blocks that links lead to from the root, and those that are lost; the links of
-- each name on the way are known
abbrev pub Reaches : View → CidParts → Reached → Type 0
Reaches v root r = OfStored v (λ stored. ListsReachable stored root r.found.items
    × ListsLost stored root r.lost.items
    × ((q : CidParts) → LeadsFar stored root q → IsKnown v q))

-- links lead to the name at which the walk stopped; or the store failed
abbrev pub ReachRefused : {S : Type 0} → Ghosts S → CidParts → S → S → StoreRefusal → Type 0
ReachRefused g root = StopsAt g (λ v n IsSo. OfStored v (λ stored. IsSo × LeadsFar stored root n))

-- ---- a walk that skips known names

-- what a walk is shown: empty bytes for a name in the set, and for another what is stored under it
abbrev pub IsShownToWalk : View → BTreeSet CidParts → CidParts → Option (List ℕ) → Type 0
IsShownToWalk v kept name o = (Among name kept.keys × (o ≡ Some []))
    ⊎ ((¬ Among name kept.keys) × GetsKnown v name o)

-- the function gives what a walk is shown of each name
abbrev pub Fits : View → BTreeSet CidParts → Stored → Type 0
Fits v kept stored = (name : CidParts) (o : Option (List ℕ))
    → IsShownToWalk v kept name o → stored name ≡ o

-- the name is in the set, or its links are known
abbrev pub IsKnownBeside : View → BTreeSet CidParts → CidParts → Type 0
IsKnownBeside v kept name = Among name kept.keys ⊎ IsKnown v name

-- the name is visited, with what is shown of it
pub record VisitsShown (v : View) (kept : BTreeSet CidParts) (name : CidParts) (old new : Walk)
    : Type 0 where
  pub visits : (root : CidParts) (stored : Stored) → Fits v kept stored
      → WalksAt stored root name old → Walks stored root new
  pub sees : SeesAlso name old new
  pub known : IsKnownBeside v kept name

-- where such a walk leads
abbrev pub ReachesBeside : View → BTreeSet CidParts → CidParts → Reached → Type 0
ReachesBeside v kept root r = (stored : Stored) → Fits v kept stored
    → ListsReachable stored root r.found.items × ListsLost stored root r.lost.items
    × ((q : CidParts) → LeadsFar stored root q → IsKnownBeside v kept q)

-- the names that such a walk comes to
abbrev pub AtMetBeside : CidParts → BTreeSet CidParts → Place
AtMetBeside root kept v n IsSo = IsSo × ((stored : Stored) → Fits v kept stored → LeadsFar stored root n)

-- ---- the CAR file of them

-- the sections are those of the names of the blocks that links lead to from the root
abbrev pub AreReached : Stored → CidParts → List Section → Type 0
AreReached stored root sections = (names : List CidParts) × ListsReachable stored root names
    × (sections ≡ sections_at stored names)

-- the sections are the first of those
abbrev pub AreFirstReached : Stored → CidParts → List Section → Type 0
AreFirstReached stored root sections = (more : List Section)
    × AreReached stored root (sections ++ more)

-- the root leads somewhere, and the sections are the first of the blocks that links lead to
abbrev pub AreFirstOf : CidParts → View → List Section → Type 0
AreFirstOf root v sections =
    OfStored v (λ stored. ¬ IsLost stored root × AreFirstReached stored root sections)

-- the root leads somewhere, the sections are the blocks that links lead to, and these names are
-- lost
abbrev pub AreTreeOf : CidParts → List CidParts → View → List Section → Type 0
AreTreeOf root lost v sections = OfStored v (λ stored. ¬ IsLost stored root
    × ListsLost stored root lost × AreReached stored root sections)

-- The CAR file of the stored blocks that links lead to from the root is appended; these names are
-- lost.
abbrev pub WritesTree : {S : Type 0} → Ghosts S → CidParts
    → S → Written → List CidParts → Written → S → Type 0
WritesTree g root old before lost after new =
    WritesFile g (cid_bytes root ∷ []) (AreTreeOf root lost) old before after new

-- Why it is not appended: nothing is stored under the root, and nothing was sent; or the writer
-- stopped within the file of the first blocks; or the store refused, before anything was sent, or
-- after the file of the first blocks.
abbrev pub TreeRefused : {S E : Type 0} → Ghosts S → CidParts
    → S → Written → WriteTreeError E → Written → S → Type 0
TreeRefused g root old before tree.NotStored after new = (after ≡ before)
    × FindsSo g old new (λ v. OfStored v (λ stored. IsLost stored root))
TreeRefused g root old before (tree.Unwritten (car.Write e)) after new =
    WriterStops g (cid_bytes root ∷ []) (AreFirstOf root) old before e after new
TreeRefused g root old before (tree.Unwritten (car.Store told)) after new =
    ReachRefused g root old new told
    × ((after ≡ before)
    ⊎ WritesFirst g (cid_bytes root ∷ []) (AreFirstOf root) old before after new)

-- if the writer takes no memory, the call runs out of memory only before anything is sent
abbrev pub TreeUnsent : {T E : Type 0} → Bool
    → Written → Result T (WriteTreeError E) → Written → Type 0
TreeUnsent takes_memory old (Err (tree.Unwritten e)) new =
    FileUnsent {T = Unit {0}} takes_memory old (Err e) new
TreeUnsent takes_memory old _ new = ⊤

-- ---- steps

-- the sections of the names begin with these
abbrev pub AreFirstAt : List CidParts → View → List Section → Type 0
AreFirstAt names v sections = (rest : List CidParts)
    × OfStored v (λ stored. sections ++ sections_at stored rest ≡ sections_at stored names)

-- the sections are those of all the names
abbrev pub AreAt : List CidParts → View → List Section → Type 0
AreAt names v sections = OfStored v (λ stored. sections ≡ sections_at stored names)

-- the name has no block, or a damaged one
abbrev pub HoldsNoneGood : View → CidParts → Type 0
HoldsNoneGood v name = ListsName v name → IsDamaged v name

-- the name has no block, or a damaged one; or the store failed
abbrev pub NamedRefused : {S : Type 0} → Ghosts S → CidParts → S → S → StoreRefusal → Type 0
NamedRefused g name old new (refusal.Damaged n) =
    (n ≡ name) × FindsSo g old new (λ v. HoldsNoneGood v n)
NamedRefused g name old new told = FailsByStore g ⊥ old new told

-- one of the names has no block, or a damaged one; or the store failed
abbrev pub NamesRefused : {S : Type 0} → Ghosts S → List CidParts → S → S → StoreRefusal → Type 0
NamesRefused g names old new (refusal.Damaged n) =
    Among n names × FindsSo g old new (λ v. HoldsNoneGood v n)
NamesRefused g names old new told = FailsByStore g ⊥ old new told

-- why the section of the name is not appended: the writer stopped within it; or the store refused,
-- and nothing was sent
abbrev pub NamedUnwritten : {S E : Type 0} → Ghosts S → CidParts
    → S → Written → WriteCarError E → Written → S → Type 0
NamedUnwritten g name old before (car.Write e) after new =
    SectionStops g (λ v s. HoldsOnly v s.0 s.1) name old before e after new
NamedUnwritten g name old before (car.Store told) after new =
    (after ≡ before) × NamedRefused g name old new told

-- the section of the block under the name is appended
abbrev pub WritesNamed : {S E : Type 0} → Ghosts S → CidParts
    → S → Written → Result (Unit {0}) (WriteCarError E) → Written → S → Type 0
WritesNamed g name old before result after new = MatchResult result
    (λ _. AppendsSection g (λ v s. HoldsOnly v s.0 s.1) name old before after new)
    (λ e. NamedUnwritten g name old before e after new)

-- the CAR file of the root and of the blocks under the names is appended
abbrev pub WritesNames : {S : Type 0} → Ghosts S → CidParts → List CidParts
    → S → Written → Written → S → Type 0
WritesNames g root names old before after new =
    WritesFile g (cid_bytes root ∷ []) (AreAt names) old before after new

-- why it is not appended: the writer stopped within the file of the first blocks; or the store
-- refused after the file of the first blocks
abbrev pub NamesUnwritten : {S E : Type 0} → Ghosts S → CidParts → List CidParts
    → S → Written → WriteCarError E → Written → S → Type 0
NamesUnwritten g root names old before (car.Write e) after new =
    WriterStops g (cid_bytes root ∷ []) (AreFirstAt names) old before e after new
NamesUnwritten g root names old before (car.Store told) after new =
    WritesFirst g (cid_bytes root ∷ []) (AreFirstAt names) old before after new
    × NamesRefused g names old new told
