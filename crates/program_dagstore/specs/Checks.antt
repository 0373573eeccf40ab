-- What `check` writes of a store.
use Rattle.std.specs.Prelude.{◌≡◌, ◌↔◌, ◌⊎◌, ℕ, List, [], ◌++◌, Bool, true, false, ◌&&◌, IsTrue, Option, None, Some, Result, Ok, Err, IfOk, Vec, flat_map}
use Rattle.std.specs.Io.KnownBytes.{Appends}
use Rattle.std.specs.List.Sorted.{IsStrictlySortedBy}
use Rattle.std.specs.BTreeSet.{BTreeSet}
use Rattle.std.specs.declared.alloc.Global.{Global}
use Rattle.sqlite_trees.specs.View.{View, IsClean}
use Rattle.ipld_tree.specs.Cid.{CidParts, AreCidParts, cid_cmp}
use Rattle.dagcbor_items.specs.Walks.{forms}
use Rattle.ipld_links.specs.Sets.{Among}
use Rattle.ipld_links.specs.Verdicts.{IsVerdictOn}
use Rattle.ipld_links.specs.Blocks.{HasLinks}
use Rattle.ipld_links.specs.Within.{IsReached}
use Rattle.ipld_links.specs.declared.verdict.Verdict.{Verdict}
use Rattle.ipld_links.specs.declared.verdict.Verdict.TheVariants as verdicts
use Rattle.program_parts.specs.Lines.{is_well, verdict_line, missing_line, IsSaidOfEach}
use Rattle.store_on_disk.specs.Stored.{IsNamedBy, Holds, HoldsOnly, IsDamaged, ListsName}
use Rattle.store_on_disk.specs.Lost.{NamesNoneListed, IsReachedIn}
use Rattle.program_dagstore.specs.Lines.{damaged_line}
use Rattle.program_dagstore.specs.Said.{Breaks}
use Rattle.program_dagstore.specs.Names.{Telling, AreAll, SaysNames}
use Rattle.program_dagstore.specs.declared.fault.Fault.{Fault}

-- the verdict on the bytes that are stored under the name, which match it; or that the bytes do not
-- match it
abbrev pub IsCheckedLine : Telling
IsCheckedLine old new name well text = ((b : List ℕ) × (verdict : Verdict) × IsNamedBy name b
    × IsVerdictOn name.codec b verdict × (IsClean new → HoldsOnly old name b)
    × (well ≡ is_well verdict) × (text ≡ verdict_line ((name, b), verdict)))
    ⊎ ((IsClean new → IsDamaged old name) × (well ≡ false) × (text ≡ damaged_line name))

-- these bytes are the binary form of a link in a stored block of DAG-CBOR or DAG-PB that matches
-- its name, or in a block that such a link holds inline
abbrev pub IsSoundlyLinked : List ℕ → View → Type 0
IsSoundlyLinked form v = (c : CidParts) × (b : List ℕ) × (links : List (List ℕ))
    × AreCidParts c × Holds v c b × IsNamedBy c b
    × HasLinks c.codec b links × IsReached form links

-- such links under which nothing is listed, and which hold no block inline, each once, in order
abbrev pub ListsSoundlyMissing : View → List CidParts → Type 0
ListsSoundlyMissing v links = IsStrictlySortedBy cid_cmp links
    × ((form : List ℕ) → Among form (forms links)
    ↔ (IsSoundlyLinked form v × NamesNoneListed form v))

-- A line is written for each name, and then for each missing link; all is well if no block is
-- damaged or missing.
pub record IsStoreChecked (old new : View)
    (before : Option (List ℕ)) (well : Bool) (after : Option (List ℕ)) : Type 0 where
  pub names : List CidParts
  pub all_well : Bool
  pub said : List ℕ
  pub all : IsClean new → AreAll old None names
  pub each : IsSaidOfEach (IsCheckedLine old new) names all_well said
  pub links : List CidParts
  pub missing : IsClean new → ListsSoundlyMissing old links
  pub none : Bool
  pub is_none : IsTrue none ↔ (links ≡ [])
  pub lines : Appends before after (said ++ flat_map missing_line links)
  pub wellness : well ≡ (all_well && none)

-- The output was cut short at a name; or after all of them, in the lines of the missing links.
abbrev pub BreaksCheck : View → View → Option (List ℕ) → Fault → Option (List ℕ) → Type 0
BreaksCheck old new before e after = SaysNames IsCheckedLine old before (Err e) new after
    ⊎ ((between : Option (List ℕ)) × (well : Bool) × (links : List CidParts)
    × SaysNames IsCheckedLine old before (Ok well) new between
    × (IsClean new → ListsSoundlyMissing old links)
    × Breaks (λ text. text ≡ flat_map missing_line links) between after e)

abbrev pub SaysCheck : View → Option (List ℕ) → Result Bool Fault → View → Option (List ℕ) → Type 0
SaysCheck old before (Ok well) new after = IsStoreChecked old new before well after
SaysCheck old before (Err e) new after = BreaksCheck old new before e after

-- the verdict is that the bytes are a block whose links are read
abbrev pub is_linked : Verdict → Bool
is_linked (verdicts.Block kind) = true
is_linked verdicts.Node = true
is_linked _ = false

-- ---- the set of missing links

-- links in the block under the first name, which is sound, lead to the second
abbrev pub LinksTo : View → CidParts → CidParts → Type 0
LinksTo v c q = (b : List ℕ) × Holds v c b × IsNamedBy c b × IsReachedIn c.codec b q

-- the names that links in the block under this one lead to, and that are not listed, are put into
-- the set
abbrev pub AddsUnlistedLinks : View → CidParts → BTreeSet CidParts → BTreeSet CidParts → Type 0
AddsUnlistedLinks v c old new = (q : CidParts) → Among q new.keys
    ↔ (Among q old.keys ⊎ (LinksTo v c q × ¬ ListsName v q))

-- such names of the next block, if there is one, are put into the set
abbrev pub AddsOfNext : View → Option (CidParts × Bool)
    → BTreeSet CidParts → BTreeSet CidParts → Type 0
AddsOfNext v None old new = new ≡ old
AddsOfNext v (Some p) old new = AddsUnlistedLinks v p.0 old new

-- the set has all the missing links
abbrev pub IsMissing : View → BTreeSet CidParts → Type 0
IsMissing v s = (q : CidParts) → Among q s.keys
    ↔ (((c : CidParts) × AreCidParts c × LinksTo v c q) × ¬ ListsName v q)

-- the lines of the CIDs of a set, in ascending order, and whether there are none
abbrev pub SaysKeys : {E : Type 0} → List CidParts → Result (Vec ℕ Global × Bool) E → Type 0
SaysKeys keys result = IfOk result (λ p. IsStrictlySortedBy cid_cmp keys
    × (p.0.items ≡ flat_map missing_line keys) × (IsTrue p.1 ↔ (keys ≡ [])))
