-- IPFS files, read from a store block by block.
use Rattle.std.specs.Prelude.{◌≡◌, ◌⊎◌, ℕ, List, ◌++◌, Bool, Option, Result, IfSome}
use Rattle.std.specs.List.{AllByRecursion}
use Rattle.sqlite_trees.specs.View.{View, IsClean}
use Rattle.sqlite_trees.specs.declared.store.Store.{Ghosts}
use Rattle.ipld_tree.specs.Cid.{CidParts}
use Rattle.ipld_links.specs.Reaching.{Stored}
use Rattle.files_unix_fs.specs.Reading.{Asked}
use Rattle.program_parts.specs.Content.{IsReadTo, IsNextName, SaysContent}
use Rattle.program_parts.specs.FileNames.{LeadsByNames, IsNoPath}
use Rattle.store_on_disk.specs.Stored.{IsNamedBy, StaysSame, FindsSo, IsDamaged, FailsByStore}
use Rattle.store_on_disk.specs.Trees.{OfStored}
use Rattle.store_on_disk.specs.declared.error.StoreRefusal.TheVariants as refusal
use Rattle.program_dagstore.specs.Blocks.{GetFails}
use Rattle.program_dagstore.specs.Said.{SaysAll}
use Rattle.program_dagstore.specs.declared.fault.Fault.{Fault}
use Rattle.program_dagstore.specs.declared.fault.Fault.TheVariants as fault

-- ---- what was read

-- what was read under a name: bytes, or nothing
abbrev pub Got : Type 0
Got = CidParts × Option (List ℕ)

-- the bytes match the name
abbrev pub IsNamedGot : Got → Type 0
IsNamedGot p = IfSome p.1 (IsNamedBy p.0)

-- each of the names gives what was read under it
abbrev pub Gives : Stored → List Got → Type 0
Gives stored = AllByRecursion (λ p. stored p.0 ≡ p.1)

-- It is so of each function that gives what was read under some names, which is nothing or bytes
-- that match the name. The stored blocks are one, unless a wrong answer of the disk was taken as
-- true.
abbrev pub OfGot : View → View → (Stored → Type 0) → Type 0
OfGot old new IsSo = (got : List Got) × AllByRecursion IsNamedGot got
    × (IsClean new → OfStored old (λ stored. Gives stored got))
    × ((stored : Stored) → Gives stored got → IsSo stored)

-- ---- a file

-- what is written of the file to which the path leads from the root
abbrev pub SaysFile : Stored → CidParts → List (List ℕ) → Option (List ℕ) → Option (List ℕ)
    → Result Bool Fault → Option (List ℕ) → Option (List ℕ) → Type 0
SaysFile stored root path old heard result new after =
    ((found : CidParts) × LeadsByNames stored root path found
    × SaysContent stored found old heard result new after)
    ⊎ SaysAll (IsNoPath stored root path) old heard result new after

-- ---- why no more is written of it

-- some first names of the path lead there
abbrev pub IsOnTheWay : CidParts → List (List ℕ) → Stored → CidParts → Type 0
IsOnTheWay root path stored name = (front back : List (List ℕ)) × (path ≡ front ++ back)
    × LeadsByNames stored root front name

-- after some first bytes of the file under the root, the block of this name is wanted
abbrev pub IsWantedIn : CidParts → Stored → CidParts → Type 0
IsWantedIn root stored name = (out : List ℕ) × (wanted below : List Asked) × (w : Asked)
    × IsReadTo stored root out wanted × IsNextName wanted below w name

-- the block of this name is on the path's way, or wanted in the file to which it leads
abbrev pub IsOfFile : CidParts → List (List ℕ) → Stored → CidParts → Type 0
IsOfFile root path stored name = IsOnTheWay root path stored name
    ⊎ ((found : CidParts) × LeadsByNames stored root path found × IsWantedIn found stored name)

-- the block under such a name is damaged, or the store failed; or the store is as it was, and a
-- device failed, or memory ran out
abbrev pub FailsAt : {S : Type 0} → Ghosts S → (Stored → CidParts → Type 0) → S → S → Fault → Type 0
FailsAt g At old new (fault.Store (refusal.Damaged name)) =
    FindsSo g old new (λ v. IsDamaged v name × OfStored v (λ stored. At stored name))
FailsAt g At old new (fault.Store told) = FailsByStore g ⊥ old new told
FailsAt g At old new (fault.Tool e) = StaysSame g old new

-- it failed at the block that is wanted next
abbrev pub FailsAtNext : {S : Type 0} → Ghosts S → List Asked → S → S → Fault → Type 0
FailsAtNext g wanted old new e = (below : List Asked) × (w : Asked) × (name : CidParts)
    × IsNextName wanted below w name × GetFails g name old new e
