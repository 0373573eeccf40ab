-- What an index yields for a CID.
use Rattle.std.specs.Prelude.{◌≡◌, ℕ, ◌+◌, ◌-◌, ◌^◌, ◌<◌, ◌≤◌, List, ◌∷◌, ◌++◌, length, drop, ⊤, Option, Some, Result, IfOk, IfSome, MatchOption, Vec}
use Rattle.std.specs.List.{AllByRecursion}
use Rattle.std.specs.declared.alloc.Global.{Global}
use Rattle.ipld_tree.specs.Cid.{CidParts}
use Rattle.ipld_links.specs.Verdicts.{IsVerified}
use Rattle.files_car.specs.Car.{Section, section_bytes, IsSection, car_bytes}
use Rattle.files_car.specs.Versions.{begin_of, length_of}
use Rattle.files_index.specs.Index.{EntryParts, index_bytes}
use Rattle.files_index.specs.Leading.{StandsAmong, IsIndexAt}
use Rattle.files_index.specs.Lookup.{find_bucket, EndsWithin, IsFirst, IsEntryOf}
use Rattle.files_index.specs.declared.find.Bucket.{Bucket}
use Rattle.program_shared.specs.declared.fault.ToolError.{ToolError}
use Rattle.program_index.specs.Indexed.{entry_of, AreEntries, indexed_bytes}
use Rattle.program_index.specs.Layouts.{index_field, HasIndex}
use Rattle.program_index.specs.declared.layout.Layout.{Layout}
use Rattle.program_index.specs.declared.find.Found.{Found}
use Rattle.program_index.specs.declared.find.Found.TheVariants as found

-- the first `long` bytes begin with a section of this CID, whose bytes match it
pub record BeginsSought (name : CidParts) (long : ℕ) (b : List ℕ) : Type 0 where
  pub block : List ℕ
  pub rest : List ℕ
  pub is : b ≡ section_bytes (name, block) ++ rest
  pub within : length (section_bytes (name, block)) ≤ long
  pub section : IsSection (name, block)
  pub verified : IsVerified (name, block)

-- The file has an index whose entries are sorted. One of the first 16 with the CID's multihash is
-- that of a section of this CID, which is at that offset, and whose bytes match the CID.
pub record IsListed (b : List ℕ) (name : CidParts) : Type 0 where
  pub entries : List EntryParts
  pub block : List ℕ
  pub offset : ℕ
  pub before : ℕ
  pub index : IsIndexAt b (index_field b) entries
  pub entry : StandsAmong entries (entry_of offset (name, block)) before
  pub early : before < 16
  pub there : BeginsSought name (length_of b - offset) (drop (begin_of b + offset) b)

-- a block that is returned matches the CID
abbrev pub GivesVerified : CidParts → Result (Option (Vec ℕ Global)) ToolError → Type 0
GivesVerified name result = IfOk result (λ o. IfSome o (λ v. IsVerified (name, v.items)))

-- A block that is found matches the CID. If the bytes of the file are known: the file has an index
-- exactly if the answer is not `NoIndex`, and the index lists no such block if it is `NoEntry`.
abbrev pub IsFound : Option (List ℕ) → CidParts → Found → Type 0
IsFound known name (found.Block v) = IsVerified (name, v.items) × IfSome known HasIndex
IsFound known name found.NoEntry = IfSome known (λ b. HasIndex b × ¬ IsListed b name)
IsFound known name found.NoIndex = IfSome known (λ b. ¬ HasIndex b)

-- ---- the steps

-- a block is returned if this holds
abbrev pub GivesWhere : Type 0 → Result (Option (Vec ℕ Global)) ToolError → Type 0
GivesWhere IsSo result = IfOk result (λ o. MatchOption o (¬ IsSo) (λ _. ⊤))

-- the same for known bytes
abbrev pub GivesOf : Option (List ℕ) → (List ℕ → Type 0) → Result (Option (Vec ℕ Global)) ToolError
    → Type 0
GivesOf known IsSo result = IfSome known (λ b. length b < 2 ^ 64 → GivesWhere (IsSo b) result)

-- such a section begins at this offset in the CARv1 payload
abbrev pub IsSoughtAt : CidParts → Layout → ℕ → List ℕ → Type 0
IsSoughtAt name layout offset b =
    BeginsSought name (layout.length - offset) (drop (layout.begin + offset) b)

-- the entry of the CID's digest that is `k` after the first leads to it
pub record LeadsAt (name : CidParts) (layout : Layout) (bucket : Bucket) (k : ℕ) (b : List ℕ) : Type 0 where
  pub whole : ¬ EndsWithin b bucket name.digest
  pub few : bucket.count < 2 ^ 32
  pub short : length name.digest ≤ 64
  pub leads : (n : ℕ) → IsFirst b bucket name.digest n → (offset : ℕ)
      × IsEntryOf b bucket name.digest (n + k) offset × IsSoughtAt name layout offset b
      × ((m : ℕ) → m < k → (place : ℕ) × IsEntryOf b bucket name.digest (n + m) place)

-- one of the first 16 entries does
abbrev pub LeadsIn : CidParts → Layout → Bucket → List ℕ → Type 0
LeadsIn name layout bucket b = (k : ℕ) × (k < 16) × LeadsAt name layout bucket k b

-- one of the entries that are found does
abbrev pub LeadsBy : CidParts → Layout → List ℕ → Type 0
LeadsBy name layout b = (bucket : Bucket)
    × (find_bucket b layout.index name.hash_code name.digest ≡ Some bucket) × LeadsIn name layout bucket b

-- ---- the law

-- what `index` writes for these sections and entries
abbrev pub written : List (List ℕ) → List Section → List EntryParts → List ℕ
written roots sections entries = indexed_bytes (car_bytes roots sections) (index_bytes entries)

-- The index that `index` writes lists a block, if it is among the first 16 with its multihash.
abbrev pub IndexLists : Type 0
IndexLists = (roots : List (List ℕ)) (before following : List Section) (s : Section) (entries : List EntryParts) (k : ℕ)
    → AllByRecursion IsSection (before ++ (s ∷ following)) → IsVerified s
    → AreEntries roots (before ++ (s ∷ following)) entries → length entries < 2 ^ 32
    → StandsAmong entries (entry_of (length (car_bytes roots before)) s) k → k < 16
    → length (written roots (before ++ (s ∷ following)) entries) < 2 ^ 64
    → IsListed (written roots (before ++ (s ∷ following)) entries) s.0
