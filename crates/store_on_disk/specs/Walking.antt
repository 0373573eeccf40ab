-- A walk over the blocks of a store, in the order of their names.
use Rattle.std.specs.Prelude.{◌≡◌, ◌↔◌, ◌⊎◌, ℕ, List, ⊤, Option, None, Some, Vec, Result, Err}
use Rattle.std.specs.Prelude.{MatchResult, MatchOption, Bool, false, IsTrue}
use Rattle.std.specs.List.{AllByRecursion}
use Rattle.std.specs.declared.alloc.Global.{Global}
use Rattle.std.specs.declared.cmp.Ordering.TheVariants.{Less}
use Rattle.sqlite_trees.specs.Tree.{IsAscending}
use Rattle.sqlite_trees.specs.View.{View, IsClean}
use Rattle.sqlite_trees.specs.declared.store.Store.{Ghosts}
use Rattle.dagcbor_heads.specs.Written.{Written, WroteAll, Stops}
use Rattle.dagcbor_core.specs.declared.error.EncodeError.{EncodeError}
use Rattle.dagcbor_core.specs.declared.error.EncodeError.TheVariants as unsent
use Rattle.ipld_tree.specs.Cid.{CidParts, cid_bytes}
use Rattle.files_car.specs.Car.{Section, header_bytes, section_bytes, car_bytes, IsHeader, IsSection, IsCar}
use Rattle.ipld_links.specs.Sets.{Among}
use Rattle.store_rows.specs.Rows.{name_tree, name_cmp, IsStored, IsListed}
use Rattle.store_on_disk.specs.Stored.{IsNamedBy, IsNext, GivesNextName, HoldsOnly, IsDamaged}
use Rattle.store_on_disk.specs.Stored.{FindsSo, FailsByStore}
use Rattle.store_on_disk.specs.Cars.{IsNameIn, IsSectionIn}
use Rattle.store_on_disk.specs.declared.error.StoreRefusal.{StoreRefusal}
use Rattle.store_on_disk.specs.declared.error.StoreRefusal.TheVariants as refusal
use Rattle.store_on_disk.specs.declared.car_error.WriteCarError.{WriteCarError}
use Rattle.store_on_disk.specs.declared.car_error.WriteCarError.TheVariants as car

-- the names of the sections come before this one
abbrev pub AreBefore : List Section → List ℕ → Type 0
AreBefore sections q = AllByRecursion (λ s. name_cmp (cid_bytes s.0) q ≡ Less) sections

-- the names ascend
abbrev pub AreRising : List Section → Type 0
AreRising sections = IsAscending (λ s t. name_cmp (cid_bytes s.0) (cid_bytes t.0) ≡ Less) sections

-- under each of the names just these bytes are stored; the names ascend; and no other is listed
-- before the last of them
pub record AreFirstBlocks (v : View) (sections : List Section) : Type 0 where
  pub stored : (s : Section) → Among s sections → HoldsOnly v s.0 s.1
  pub rising : AreRising sections
  pub reached : (q : List ℕ) → IsListed (v.trees name_tree) q
      → IsNameIn sections q ⊎ AreBefore sections q

-- the sections are the blocks that are stored, each once, in the order of their names
pub record AreBlocks (v : View) (sections : List Section) : Type 0 where
  pub stored : (q b : List ℕ) → IsSectionIn sections q b ↔ IsStored v.trees q b
  pub lists : (q : List ℕ) → IsListed (v.trees name_tree) q → IsNameIn sections q
  pub rising : AreRising sections

-- the bytes of each match its name
abbrev pub AreAllNamed : List Section → Type 0
AreAllNamed sections = AllByRecursion (λ s. IsNamedBy s.0 s.1) sections

-- what is stored under some name is damaged; or the store failed
abbrev pub WalkRefused : {S : Type 0} → Ghosts S → S → S → StoreRefusal → Type 0
WalkRefused g old new (refusal.Damaged n) = FindsSo g old new (λ v. IsDamaged v n)
WalkRefused g old new told = FailsByStore g ⊥ old new told

-- the damaged block is that of the first name after the last one
abbrev pub IsOfNext : {S : Type 0} → Ghosts S → Option CidParts → S → S → StoreRefusal → Type 0
IsOfNext g last old new (refusal.Damaged n) =
    IsClean (g.view new) → IsNext ((g.view old).trees name_tree) last n
IsOfNext g last old new _ = ⊤

-- the first block after the last name, or `None` if no name is listed there
abbrev pub NextBlock : View → Option CidParts → Option (CidParts × Vec ℕ Global) → Type 0
NextBlock v last None = GivesNextName v last None
NextBlock v last (Some p) = IsNext (v.trees name_tree) last p.0 × HoldsOnly v p.0 p.1.items

-- the bytes match the name
abbrev pub IsNamedNext : Option (CidParts × Vec ℕ Global) → Type 0
IsNamedNext None = ⊤
IsNamedNext (Some p) = IsNamedBy p.0 p.1.items

-- ---- a CAR file

-- The CAR file of these roots and of sections that are so is appended, and nothing has changed.
pub record WritesFile {S : Type 0} (g : Ghosts S) (roots : List (List ℕ))
    (AreSo : View → List Section → Type 0)
    (old : S) (before after : Written) (new : S) : Type 0 where
  pub sections : List Section
  pub named : AreAllNamed sections
  pub wrote : WroteAll (Some (car_bytes roots sections)) before after
  pub is_car : IsCar (car_bytes roots sections) roots sections
  pub are_so : FindsSo g old new (λ v. AreSo v sections)

-- A CAR file of these roots and of first sections that are so is appended, and no more.
pub record WritesFirst {S : Type 0} (g : Ghosts S) (roots : List (List ℕ))
    (AreSo : View → List Section → Type 0)
    (old : S) (before after : Written) (new : S) : Type 0 where
  pub sections : List Section
  pub named : AreAllNamed sections
  pub wrote : WroteAll (Some (car_bytes roots sections)) before after
  pub are_so : IsClean (g.view new) → AreSo (g.view old) sections

-- The writer stopped within the CAR file of these roots and of first sections that are so, and
-- nothing has changed.
pub record WriterStops {S E : Type 0} (g : Ghosts S) (roots : List (List ℕ))
    (AreSo : View → List Section → Type 0)
    (old : S) (before : Written) (e : EncodeError E) (after : Written) (new : S) : Type 0 where
  pub sections : List Section
  pub named : AreAllNamed sections
  pub stops : Stops (Some (car_bytes roots sections)) before after e
  pub are_so : FindsSo g old new (λ v. AreSo v sections)

-- Why not all blocks are written: the writer stopped within the file of the first blocks; or the
-- store refused after that file.
abbrev pub WriteRefused : {S E : Type 0} → Ghosts S → List (List ℕ)
    → S → Written → WriteCarError E → Written → S → Type 0
WriteRefused g roots old before (car.Write e) after new =
    WriterStops g roots AreFirstBlocks old before e after new
WriteRefused g roots old before (car.Store told) after new =
    WritesFirst g roots AreFirstBlocks old before after new × WalkRefused g old new told

-- if the writer takes no memory, the call runs out of memory only before anything is sent
abbrev pub FileUnsent : {T E : Type 0} → Bool
    → Written → Result T (WriteCarError E) → Written → Type 0
FileUnsent takes_memory old (Err (car.Write unsent.OutOfMemory)) new =
    takes_memory ≡ false → new ≡ old
FileUnsent takes_memory old _ new = ⊤

-- ---- steps

-- out of memory is returned for the writer only if it may take some
abbrev pub FileWantsMemoryOnlyIf : {T E : Type 0} → Bool → Result T (WriteCarError E) → Type 0
FileWantsMemoryOnlyIf may (Err (car.Write unsent.OutOfMemory)) = IsTrue may
FileWantsMemoryOnlyIf may _ = ⊤

-- why the header is not appended
abbrev pub HeaderUnwritten : {E : Type 0} → List (List ℕ)
    → Written → Written → WriteCarError E → Type 0
HeaderUnwritten roots before after (car.Write e) = Stops (Some (header_bytes roots)) before after e
HeaderUnwritten roots before after (car.Store told) = ⊥

-- The header of these roots is appended.
abbrev pub BeginsFile : {E : Type 0} → List (List ℕ)
    → Written → Result (Unit {0}) (WriteCarError E) → Written → Type 0
BeginsFile roots before result after = MatchResult result
    (λ _. IsHeader roots × WroteAll (Some (header_bytes roots)) before after)
    (HeaderUnwritten roots before after)

-- the section is that of the first block after the last name
abbrev pub IsNextSection : View → Option CidParts → Section → Type 0
IsNextSection v last s = IsNext (v.trees name_tree) last s.0 × HoldsOnly v s.0 s.1

-- the writer stopped within the section that is so, of this name, and nothing has changed
pub record SectionStops {S E : Type 0} (g : Ghosts S) (IsSo : View → Section → Type 0)
    (name : CidParts) (old : S) (before : Written) (e : EncodeError E) (after : Written)
    (new : S) : Type 0 where
  pub bytes : List ℕ
  pub named : IsNamedBy name bytes
  pub stops : Stops (Some (section_bytes (name, bytes))) before after e
  pub is_so : FindsSo g old new (λ v. IsSo v (name, bytes))

-- the section that is so, of this name, is appended, and nothing has changed
pub record AppendsSection {S : Type 0} (g : Ghosts S) (IsSo : View → Section → Type 0)
    (name : CidParts) (old : S) (before after : Written) (new : S) : Type 0 where
  pub bytes : List ℕ
  pub named : IsNamedBy name bytes
  pub is_section : IsSection (name, bytes)
  pub wrote : WroteAll (Some (section_bytes (name, bytes))) before after
  pub is_so : FindsSo g old new (λ v. IsSo v (name, bytes))

-- why the next block is not appended: the writer stopped within its section; or the store refused,
-- and nothing was sent
abbrev pub NextUnwritten : {S E : Type 0} → Ghosts S → Option CidParts
    → S → Written → WriteCarError E → Written → S → Type 0
NextUnwritten g last old before (car.Write e) after new = (name : CidParts)
    × SectionStops g (λ v s. IsNextSection v last s) name old before e after new
NextUnwritten g last old before (car.Store told) after new =
    (after ≡ before) × WalkRefused g old new told

-- The section of the next block is appended, and its name returned; or no name follows the last
-- one, and nothing is sent.
abbrev pub WritesNext : {S E : Type 0} → Ghosts S → Option CidParts
    → S → Written → Result (Option CidParts) (WriteCarError E) → Written → S → Type 0
WritesNext g last old before result after new = MatchResult result
    (λ next. MatchOption next
    ((after ≡ before) × FindsSo g old new (λ v. GivesNextName v last None))
    (λ c. AppendsSection g (λ v s. IsNextSection v last s) c old before after new))
    (λ e. NextUnwritten g last old before e after new)
