-- What is written of the roots that a store keeps, and how they change.
use Rattle.std.specs.Prelude.{◌≡◌, ◌≢◌, ◌⊎◌, ℕ, List, [], Bool, true, false, Option, Result, Ok, Err, MatchResult, flat_map}
use Rattle.std.specs.Io.KnownBytes.{Appends}
use Rattle.sqlite_trees.specs.Tree.{Trees}
use Rattle.sqlite_trees.specs.View.{View, IsClean}
use Rattle.sqlite_trees.specs.declared.store.Store.{Ghosts}
use Rattle.ipld_tree.specs.Cid.{CidParts}
use Rattle.dagcbor_items.specs.Walks.{forms}
use Rattle.ipld_links.specs.Sets.{Among}
use Rattle.store_on_disk.specs.RootRows.{root_tree, AreRoots, LeavesOut}
use Rattle.store_on_disk.specs.Cars.{RootsNotKept}
use Rattle.store_on_disk.specs.Ends.{KeepsOthers, IsOfRoots}
use Rattle.store_on_disk.specs.Stored.{FindsSo, IsUndone, IsCommitted, FailsByStore}
use Rattle.store_on_disk.specs.Roots.{HasRoots, AreRootsAdded, MayKeepRoots}
use Rattle.store_on_disk.specs.Collecting.{KeepsReachable}
use Rattle.store_on_disk.specs.declared.error.StoreRefusal.{StoreRefusal}
use Rattle.program_dagstore.specs.Changes.{cid_line, SaysCollected, Commits, Splits, SplitsOnce}
use Rattle.program_dagstore.specs.Files.{Exports}
use Rattle.program_dagstore.specs.Lines.{no_roots_line}
use Rattle.program_dagstore.specs.Said.{Breaks}
use Rattle.program_dagstore.specs.Trees.{TellsText}
use Rattle.program_dagstore.specs.declared.taken.Taken.{Taken}
use Rattle.program_dagstore.specs.declared.fault.Fault.{Fault}
use Rattle.program_dagstore.specs.declared.fault.Fault.TheVariants as fault

-- ---- roots

-- the lines of the roots, in their order
abbrev pub AreRootLines : View → View → List ℕ → Type 0
AreRootLines old new text = (names : List CidParts) × (IsClean new → HasRoots old names)
    × (text ≡ flat_map cid_line names)

-- these lines were written, or cut short
abbrev pub SaysRoots : View → Option (List ℕ) → Result Bool Fault → View → Option (List ℕ) → Type 0
SaysRoots old before result new after = MatchResult result
    (λ well. (well ≡ true)
    × ((text : List ℕ) × AreRootLines old new text × Appends before after text))
    (Breaks (AreRootLines old new) before after)

-- ---- the roots of export and gc

-- the roots that are used if these are given: these, or those that the store keeps if none is
abbrev pub AreMeant : View → View → List CidParts → List CidParts → Type 0
AreMeant old new given roots = ((given ≡ []) × (IsClean new → HasRoots old roots))
    ⊎ ((given ≢ []) × (roots ≡ given))

-- none is given, and the roots of the store were not read, because it failed
abbrev pub RootsUnread : {S : Type 0} → Ghosts S → List CidParts → S → S → StoreRefusal → Type 0
RootsUnread g given old new told = (given ≡ []) × FailsByStore g ⊥ old new told

-- the CAR file of the roots that are used was written, or cut short; or the roots were not read,
-- and nothing was written
abbrev pub ExportsMeant : {S : Type 0} → Ghosts S → List CidParts
    → S → Option (List ℕ) → Result Bool Fault → S → Option (List ℕ) → Type 0
ExportsMeant g given old before ended new after = ((told : StoreRefusal)
    × (ended ≡ Err (fault.Store told)) × RootsUnread g given old new told × (after ≡ before))
    ⊎ ((roots : List CidParts) × AreMeant (g.view old) (g.view new) given roots
    × Exports g (forms roots) old before ended new after)

-- none is given, the store keeps none, and nothing is changed: this is reported
abbrev pub TellsNoRoots : {S : Type 0} → Ghosts S → List CidParts
    → S → Option (List ℕ) → Option (List ℕ) → Result Bool Fault
    → S → Option (List ℕ) → Option (List ℕ) → Type 0
TellsNoRoots g given old before heard ended new after told = (given ≡ [])
    × FindsSo g old new (λ v. HasRoots v [])
    × (after ≡ before) × TellsText no_roots_line (λ well. well ≡ false) heard ended told

-- What links lead to from the roots that are used is kept, and it is written how many names were
-- removed; or there is no such root, and nothing is removed; or the roots of the store were not
-- read, and nothing is written.
abbrev pub CollectsMeant : {S : Type 0} → Ghosts S → List CidParts
    → S → Option (List ℕ) → Option (List ℕ) → Result Bool Fault
    → S → Option (List ℕ) → Option (List ℕ) → Type 0
CollectsMeant g given old before heard ended new after told = ((why : StoreRefusal)
    × (ended ≡ Err (fault.Store why)) × RootsUnread g given old new why
    × (after ≡ before) × (told ≡ heard))
    ⊎ (TellsNoRoots g given old before heard ended new after told
    ⊎ ((roots : List CidParts) × (roots ≢ []) × AreMeant (g.view old) (g.view new) given roots
    × SaysCollected g roots old before ended new after × (told ≡ heard)))

-- just what links lead to from the roots that are used is kept, and there is at least one such root
abbrev pub KeepsMeant : View → View → List CidParts → Trees → Type 0
KeepsMeant old new given db = (roots : List CidParts) × (roots ≢ []) × AreMeant old new given roots
    × KeepsReachable old roots db

-- ---- add-root

-- the trees are those after the names were added to the roots that there were
abbrev pub HasAddedRoots : View → List CidParts → Trees → Type 0
HasAddedRoots old names db = (added : View) × AreRootsAdded old added names × (db ≡ added.trees)

-- each of the names is a root, and that is committed; or the store refused, and what was not
-- committed is undone
abbrev pub AddsToRoots : {S : Type 0} → Ghosts S → List CidParts
    → S → Result Bool Fault → S → Type 0
AddsToRoots g names old (Ok well) new = (well ≡ true) × MayKeepRoots (g.view old) names
    × (IsClean (g.view new) → (added : View)
    × AreRootsAdded (g.view old) added names × IsCommitted added (g.view new))
AddsToRoots g names old (Err (fault.Store told)) new = RootsNotKept g names old new told
    × (IsClean (g.view new) → IsUndone (g.view old) (g.view new))
AddsToRoots g names old (Err (fault.Tool e)) new = ⊥

-- ---- drop-root

-- the roots are those that there were, without these names and in their order, and each other tree
-- is the same
pub record DropsRoots (names : List CidParts) (old new : Trees) : Type 0 where
  pub roots : (before : List CidParts) → AreRoots (old root_tree) before
      → (now : List CidParts) × AreRoots (new root_tree) now × LeavesOut (λ c. Among c names) before now
  pub beside : KeepsOthers IsOfRoots old new

-- this many of the names are roots, and the others are not
abbrev pub SplitsRoots : View → List CidParts → Taken → Type 0
SplitsRoots v names taken = (roots : List CidParts) → HasRoots v roots
    → Splits (λ c. Among c roots) names taken

-- unless a wrong answer of the disk was taken as true, these names are removed from the roots, and
-- all is committed; the result says which of the names, each counted once, were roots
abbrev pub Drops : {S : Type 0} → Ghosts S → List CidParts → S → S → Taken → Type 0
Drops g names old new taken = IsClean (g.view new)
    → Commits (DropsRoots names) (g.view old) (g.view new)
    × ((roots : List CidParts) → HasRoots (g.view old) roots
    → SplitsOnce (λ c. Among c roots) names taken)
