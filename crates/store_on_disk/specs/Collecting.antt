-- What is kept of a store if all is removed but the blocks that links lead to from roots.
use Rattle.std.specs.Prelude.{◌≡◌, ◌↔◌, ◌⊎◌, ℕ, ℤ, List, [], ◌∷◌, ◌++◌, length, Option, None, Some}
use Rattle.std.specs.Prelude.{Bool, IsTrue, MatchBool, true}
use Rattle.std.specs.BTreeSet.{BTreeSet}
use Rattle.sqlite_trees.specs.Tree.{Trees}
use Rattle.sqlite_trees.specs.View.{View}
use Rattle.sqlite_trees.specs.declared.store.Store.{Ghosts}
use Rattle.ipld_tree.specs.Cid.{CidParts, AreCidParts, cid_bytes}
use Rattle.ipld_links.specs.Sets.{Among}
use Rattle.ipld_links.specs.Names.{IsInline}
use Rattle.ipld_links.specs.Reaching.{Stored, IsThere, LeadsFar, NoneTwice}
use Rattle.store_rows.specs.Rows.{block_tree, name_tree, block_row, name_entry, IsStored, IsListed}
use Rattle.store_rows.specs.Ends.{KeepsOthers, IsOfBlocks}
use Rattle.store_on_disk.specs.Stored.{IsNext, GivesNextName, ListsName, IsSame, IsTaken, FindsSo}
use Rattle.store_on_disk.specs.Stored.{FailsByStore}
use Rattle.store_on_disk.specs.Trees.{OfStored, IsKnown, Place, StopsAt}
use Rattle.store_on_disk.specs.declared.error.StoreRefusal.{StoreRefusal}
use Rattle.store_on_disk.specs.declared.error.StoreRefusal.TheVariants as refusal

-- links lead to the name from one of the roots
abbrev pub IsRooted : Stored → List CidParts → CidParts → Type 0
IsRooted stored roots name = (root : CidParts) × Among root roots × LeadsFar stored root name

-- the bytes are the binary form of a name that links lead to from the roots
abbrev pub IsLedForm : Stored → List CidParts → List ℕ → Type 0
IsLedForm stored roots q = (name : CidParts) × AreCidParts name
    × IsRooted stored roots name × (cid_bytes name ≡ q)

-- Under the names that are so is stored what was stored there, and nothing under others. The index
-- has the entries that it had of these names, and the table the rows that it had, but for those to
-- which the other names led.
pub record HoldsThose (IsSo : List ℕ → Type 0) (old new : Trees) : Type 0 where
  pub holds : (q b : List ℕ) → IsStored new q b ↔ (IsStored old q b × IsSo q)
  pub entries : (id : ℤ) (q : List ℕ) → Among (name_entry q id) (new name_tree)
      ↔ (Among (name_entry q id) (old name_tree) × IsSo q)
  pub rows : (id : ℤ) (q b : List ℕ) → Among (block_row id q b) (new block_tree)
      ↔ (Among (block_row id q b) (old block_tree)
      × ¬ (¬ IsSo q × Among (name_entry q id) (old name_tree)))

-- a block is listed under the name, or the name holds it inline
abbrev pub HasBlockAt : View → CidParts → Type 0
HasBlockAt v name = ListsName v name ⊎ IsInline name

-- each of the names has a block
abbrev pub HaveBlocks : View → List CidParts → Type 0
HaveBlocks v names = (name : CidParts) → Among name names → HasBlockAt v name

-- Just what links lead to from the roots is kept. Each root has a block, and the links of each name
-- that they lead to are known.
abbrev pub KeepsReachable : View → List CidParts → Trees → Type 0
KeepsReachable v roots new = HaveBlocks v roots
    × OfStored v (λ stored. HoldsThose (IsLedForm stored roots) v.trees new
    × ((name : CidParts) → IsRooted stored roots name → IsKnown v name))

-- this many names were listed, and no longer are
abbrev pub TakesOut : Trees → Trees → ℕ → Type 0
TakesOut old new count = (names : List (List ℕ)) × NoneTwice names × (count ≡ length names)
    × ((q : List ℕ) → Among q names ↔ (IsListed (old name_tree) q × ¬ IsListed (new name_tree) q))

-- just what the roots lead to is kept, this many names are removed, and all is committed; each tree
-- other than those of blocks is as it was
pub record IsCollected (old new : View) (roots : List CidParts) (count : ℕ) : Type 0 where
  pub trees : KeepsReachable old roots new.trees
  pub beside : KeepsOthers IsOfBlocks old.trees new.trees
  pub taken : TakesOut old.trees new.trees count
  pub committed : new.committed ≡ new.trees
  pub is_open : IsTrue new.is_open

-- a name that is so lacks a block; or the store failed
abbrev pub BlocksLacking : {S : Type 0} → Ghosts S → (CidParts → Type 0) → S → S → StoreRefusal
    → Type 0
BlocksLacking g IsSo old new (refusal.NoBlock n) =
    FindsSo g old new (λ v. IsSo n × ¬ HasBlockAt v n)
BlocksLacking g IsSo old new told = FailsByStore g ⊥ old new told

-- the names that links lead to from the roots
abbrev pub AtRooted : List CidParts → Place
AtRooted roots v n IsSo = IsSo × OfStored v (λ stored. IsRooted stored roots n)

-- a root has no block; or links lead from the roots to a name whose block is damaged or whose links
-- are not known; or the store failed
abbrev pub CollectRefused : {S : Type 0} → Ghosts S → List CidParts → S → S → StoreRefusal → Type 0
CollectRefused g roots old new (refusal.NoBlock n) =
    BlocksLacking g (λ q. Among q roots) old new (refusal.NoBlock n)
CollectRefused g roots old new told =
    StopsAt g (AtRooted roots) old new told

-- ---- marking

-- the names are put into the set
abbrev pub CollectsAll : List CidParts → BTreeSet CidParts → BTreeSet CidParts → Type 0
CollectsAll names old new = (q : CidParts) → Among q new.keys ↔ (Among q old.keys ⊎ Among q names)

-- the set has the names that links lead to from the roots and under which bytes are stored, and the
-- links of each name that they lead to are known
abbrev pub Marks : View → List CidParts → BTreeSet CidParts → Type 0
Marks v roots kept = OfStored v (λ stored. (name : CidParts)
    → (Among name kept.keys ↔ (IsThere stored name × IsRooted stored roots name))
    × (IsRooted stored roots name → IsKnown v name))

-- the set has those names, and each root has a block
abbrev pub MarksRoots : View → List CidParts → BTreeSet CidParts → Type 0
MarksRoots v roots kept = HaveBlocks v roots × Marks v roots kept

-- the set also has what one more root leads to
abbrev pub MarksMore : View → CidParts → BTreeSet CidParts → BTreeSet CidParts → Type 0
MarksMore v root old new = (roots : List CidParts)
    → Marks v roots old → Marks v (roots ++ root ∷ []) new

-- the names that links lead to from the root, if the set is that of other roots
abbrev pub AtMarked : CidParts → BTreeSet CidParts → Place
AtMarked root kept v n IsSo = IsSo × ((roots : List CidParts) → Marks v roots kept
    → OfStored v (λ stored. LeadsFar stored root n))

-- ---- sweeping

-- the bytes are the binary form of a name in the set
abbrev pub IsKeptForm : BTreeSet CidParts → List ℕ → Type 0
IsKeptForm kept q = (name : CidParts) × AreCidParts name
    × Among name kept.keys × (cid_bytes name ≡ q)

-- no name follows the last one; or the first is in the set, and nothing has changed; or it is not,
-- and is removed
abbrev pub SweepsNext : View → View → Option CidParts → BTreeSet CidParts
    → Option (CidParts × Bool) → Type 0
SweepsNext old new last kept None = GivesNextName old last None × IsSame old new
SweepsNext old new last kept (Some p) = IsNext (old.trees name_tree) last p.0 × MatchBool p.1
    ((¬ Among p.0 kept.keys) × IsTaken old new p.0 true)
    (Among p.0 kept.keys × IsSame old new)

-- the names in the set are kept, and this many were removed; what was committed is the same, and so
-- is each other tree
pub record IsSwept (old new : View) (kept : BTreeSet CidParts) (count : ℕ) : Type 0 where
  pub trees : HoldsThose (IsKeptForm kept) old.trees new.trees
  pub beside : KeepsOthers IsOfBlocks old.trees new.trees
  pub taken : TakesOut old.trees new.trees count
  pub committed : new.committed ≡ old.committed
  pub is_open : new.is_open ≡ old.is_open
  pub broken : new.is_broken ≡ old.is_broken
