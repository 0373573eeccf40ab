-- The roots that a store keeps, in their order.
use Rattle.std.specs.Prelude.{◌≡◌, ◌≢◌, ◌↔◌, ◌⊎◌, false, List, [], ◌∷◌, ◌++◌, None, Bool, IsTrue}
use Rattle.sqlite_trees.specs.Tree.{Trees}
use Rattle.sqlite_trees.specs.View.{View, IsClean}
use Rattle.sqlite_trees.specs.declared.store.Store.{Ghosts}
use Rattle.sqlite_trees.specs.declared.store.Shape.TheVariants as shape
use Rattle.ipld_tree.specs.Cid.{CidParts, cid_bytes}
use Rattle.ipld_links.specs.Sets.{Among, members}
use Rattle.ipld_links.specs.declared.cid_set.CidSet.{CidSet}
use Rattle.store_rows.specs.Rows.{FreesId}
use Rattle.store_rows.specs.RootRows.{root_tree, AreRoots, LeavesOut, IsRootTooLong}
use Rattle.store_rows.specs.Ends.{KeepsOthers, IsOfRoots}
use Rattle.store_on_disk.specs.Stored.{IsSame, FindsSo, FailsByStore}
use Rattle.store_on_disk.specs.declared.error.StoreRefusal.{StoreRefusal}
use Rattle.store_on_disk.specs.declared.error.StoreRefusal.TheVariants as refusal

-- the store has these roots, in this order
abbrev pub HasRoots : View → List CidParts → Type 0
HasRoots v names = AreRoots (v.trees root_tree) names

-- the name was added as the last root; or it was a root already, and the roots are the same
abbrev pub JoinsRoots : List CidParts → CidParts → List CidParts → Type 0
JoinsRoots old name new = (Among name old × (new ≡ old))
    ⊎ ((¬ Among name old) × (new ≡ old ++ name ∷ []))

-- the file is of the earlier version
abbrev pub IsEarlier : View → Type 0
IsEarlier v = v.shape root_tree ≡ shape.Absent

-- no number is left for a row of the name, which is not a root
abbrev pub LacksNumber : Trees → CidParts → Type 0
LacksNumber t name = FreesId (t root_tree) None
    × ((names : List CidParts) → AreRoots (t root_tree) names → ¬ Among name names)

-- the row of the name as a root would be too long
abbrev pub IsRootTooLongFor : View → CidParts → Type 0
IsRootTooLongFor v name = IsRootTooLong v.reals (cid_bytes name)

-- each of these names is added, one after the other
abbrev pub AddsInTurn : List CidParts → List CidParts → List CidParts → Type 0
AddsInTurn old [] new = new ≡ old
AddsInTurn old (name ∷ more) new = (mid : List CidParts)
    × JoinsRoots old name mid × AddsInTurn mid more new

-- the roots are those that there were, and then each of these names that was not one
abbrev pub GainsRoots : Trees → Trees → List CidParts → Type 0
GainsRoots old new added = (names : List CidParts) → AreRoots (old root_tree) names
    → (now : List CidParts) × AreRoots (new root_tree) now × AddsInTurn names added now

-- the file is not of the earlier version
abbrev pub KeepsRoots : View → Type 0
KeepsRoots v = ¬ IsEarlier v

-- the file is not of the earlier version, or there are no roots to keep
abbrev pub MayKeepRoots : View → List CidParts → Type 0
MayKeepRoots v names = (names ≡ []) ⊎ KeepsRoots v

-- The names are roots; if all of them were already, nothing is changed. Each other tree is the
-- same, and so is what was committed.
pub record AreRootsAdded (old new : View) (added : List CidParts) : Type 0 where
  pub roots : GainsRoots old.trees new.trees added
  pub same : (names : List CidParts) → HasRoots old names
      → ((c : CidParts) → Among c added → Among c names) → new.trees ≡ old.trees
  pub beside : KeepsOthers IsOfRoots old.trees new.trees
  pub committed : new.committed ≡ old.committed
  pub reals : new.reals ≡ old.reals
  pub is_open : new.is_open ≡ old.is_open
  pub broken : new.is_broken ≡ old.is_broken

-- the names begin with the first ones and then this one
abbrev pub ComesNext : List CidParts → CidParts → List CidParts → Type 0
ComesNext first name names = (rest : List CidParts) × (names ≡ first ++ name ∷ rest)

-- one of the names is too long for a row
abbrev pub IsAnyTooLong : View → List CidParts → Type 0
IsAnyTooLong v names = (name : CidParts) × Among name names × IsRootTooLongFor v name

-- the first of the names are added, and no number is left for a row of the next
pub record RootsRunOut (old now : View) (names : List CidParts) : Type 0 where
  pub first : List CidParts
  pub name : CidParts
  pub held : View
  pub stands : ComesNext first name names
  pub added : AreRootsAdded old held first
  pub lacks : LacksNumber held.trees name
  pub same : IsSame held now

-- The file is of the earlier version, there are names, and nothing is changed; or the first are
-- added, and no number is left for a row of the next; or the store failed, with `BadRoot` if a row
-- of the table is not a root's.
abbrev pub RootsRefused : {S : Type 0} → Ghosts S → List CidParts → S → S → StoreRefusal → Type 0
RootsRefused g names old new refusal.EarlierVersion =
    IsEarlier (g.view old) × (names ≢ []) × (new ≡ old)
RootsRefused g names old new refusal.NoNumber =
    IsClean (g.view new) → RootsRunOut (g.view old) (g.view new) names
RootsRefused g names old new told = FailsByStore g (IsAnyTooLong (g.view old) names) old new told

-- ---- one root

-- the set has just these names
abbrev pub HasJust : List CidParts → CidSet → Type 0
HasJust names known = (c : CidParts) → Among c (members known) ↔ Among c names

-- the set has just the roots
abbrev pub KnowsRoots : View → CidSet → Type 0
KnowsRoots v known = (names : List CidParts) × HasRoots v names × HasJust names known

-- the name is a root, after the others unless it was one
pub record IsRootAdded (old new : View) (name : CidParts) : Type 0 where
  pub roots : (names : List CidParts) → HasRoots old names
      → (now : List CidParts) × HasRoots new now × JoinsRoots names name now
  pub same : (names : List CidParts) → HasRoots old names → Among name names → new.trees ≡ old.trees
  pub beside : KeepsOthers IsOfRoots old.trees new.trees
  pub committed : new.committed ≡ old.committed
  pub reals : new.reals ≡ old.reals
  pub is_open : new.is_open ≡ old.is_open
  pub broken : new.is_broken ≡ old.is_broken

-- no number is left for a row of the name, which is not a root; or the store failed
abbrev pub RootRefused : {S : Type 0} → Ghosts S → CidParts → S → S → StoreRefusal → Type 0
RootRefused g name old new refusal.NoNumber = FindsSo g old new (λ v. LacksNumber v.trees name)
RootRefused g name old new told =
    FailsByStore g (IsRootTooLongFor (g.view old) name) old new told

-- ---- removing

-- The name is not a root now, and the result says whether it was; the other roots are, in their
-- order. If it was not, nothing is changed. Each other tree is the same, and so is what was
-- committed.
pub record IsRootTaken (old new : View) (name : CidParts) (taken : Bool) : Type 0 where
  pub roots : (names : List CidParts) → HasRoots old names → (IsTrue taken ↔ Among name names)
      × ((now : List CidParts) × HasRoots new now × LeavesOut (λ c. c ≡ name) names now)
  pub same : taken ≡ false → new.trees ≡ old.trees
  pub beside : KeepsOthers IsOfRoots old.trees new.trees
  pub committed : new.committed ≡ old.committed
  pub was_open : IsTrue old.is_open
  pub is_open : IsTrue new.is_open
  pub broken : new.is_broken ≡ old.is_broken
