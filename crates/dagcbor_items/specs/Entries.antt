-- What reading a map's entries returns and refuses.
use Rattle.std.specs.Prelude.{◌≡◌, ℕ, ◌++◌, ◌<◌, ◌≤◌, length, true, false, List, Option, None, Some, is_some, Result, MatchResult, ⊤, String, IsUtf8, codes}
use Rattle.std.specs.Borrow.{Bor}
use Rattle.std.specs.BTreeMap.{BTreeMap}
use Rattle.std.specs.Cow.{cow_str_bytes}
use Rattle.std.specs.declared.borrow.CowStr.{CowStr}
use Rattle.std.specs.declared.alloc.Global.{Global}
use Rattle.dagcbor_heads.specs.Reading.{Reading, Stays}
use Rattle.dagcbor_heads.specs.Looking.{LooksAtTaken}
use Rattle.dagcbor_heads.specs.Refusals.{RefusesOrLacksMemory, RefusesOrLacksMemoryUnlent}
use Rattle.dagcbor_core.specs.Names.{Names}
use Rattle.dagcbor_core.specs.declared.error.DecodeError.{DecodeError}
use Rattle.dagcbor_core.specs.declared.error.DecodeError.TheVariants.{RequireUtf8, UnorderedKey}
use Rattle.ipld_tree.specs.Tree.{text, Entries, ordered_entries, entries_need, Precedes}
use Rattle.ipld_tree.specs.Spelling.{entry_count, text_spelling, IsFront, AreEntryFronts}
use Rattle.ipld_tree.specs.Ipld.{pairs_of}
use Rattle.ipld_tree.specs.declared.ipld.Ipld.{Ipld}
use Rattle.dagcbor_items.specs.Places.{Follows}
use Rattle.dagcbor_items.specs.Majors.{TakesString}
use Rattle.dagcbor_items.specs.Shapes.{Shape, takes_some, view_text, leaf}
use Rattle.dagcbor_items.specs.TypedReads.{TakesFront}
use Rattle.dagcbor_items.specs.ReadCauses.{KeyCause, EntriesCause}

-- a key that follows the previous one is at the front
pub record HasKey (previous : Option (List ℕ)) (r : Reading) : Type 0 where
  pub bytes : List ℕ
  pub key : List ℕ
  pub rest : List ℕ
  pub left : r.left ≡ Some bytes
  pub front : IsFront bytes (text key) rest
  pub follows : Follows previous key

-- A key is read if and only if one that follows the previous key is at the front. If the input
-- lends, it is not refused as out of memory.
abbrev pub ReadsKeyAs : {K E : Type 0} → (K → List ℕ) → Option (List ℕ) → Reading
    → Result K (DecodeError E) → Reading → Type 0
ReadsKeyAs meaning previous old result new = MatchResult result
    (λ k. Follows previous (meaning k) × TakesFront (leaf view_text) old (meaning k) new)
    (λ e. RefusesOrLacksMemoryUnlent (HasKey previous old) (KeyCause previous) old e new)

-- a key is read as a text, lent or in memory of its own
abbrev pub ReadsKey : {E : Type 0} → Option (List ℕ) → Reading
    → Result (CowStr Global) (DecodeError E) → Reading → Type 0
ReadsKey = ReadsKeyAs cow_str_bytes

-- A whole text was taken: a key that follows the previous one, or else its bytes.
abbrev pub TakesKey : Option (List ℕ) → Reading → Result (Bor (List ℕ)) (Bor (List ℕ)) → Reading
    → Type 0
TakesKey previous old result new = MatchResult result
    (λ k. Follows previous k.now × TakesFront (leaf view_text) old k.now new)
    (λ b. TakesString 3 old b.now new × (IsUtf8 b.now → ¬ Follows previous b.now))

-- this key was at the front, follows the previous one, and was taken, with one look at each of its
-- bytes
pub record TakesKnownKey (previous : Option (List ℕ)) (key : List ℕ) (old new : Reading) : Type 0 where
  pub follows : Follows previous key
  pub takes : TakesFront (leaf view_text) old key new
  pub looked : LooksAtTaken 2 0 old new

-- a slice begins with this name, whose head has one byte, and which follows the previous key
pub record HasName (previous : Option (List ℕ)) (name : List ℕ) (r : Reading) : Type 0 where
  pub rest : List ℕ
  pub lends : r.lends ≡ true
  pub short : length name < 24
  pub left : r.left ≡ Some (text_spelling name ++ rest)
  pub follows : Follows previous name

-- the refusal of a text's bytes that are not a key: they are not UTF-8, or do not follow the
-- previous key
abbrev pub IsNoKey : {E : Type 0} → List ℕ → DecodeError E → Type 0
IsNoKey b (RequireUtf8 kept) = Names kept (codes "map key") × (¬ IsUtf8 b)
IsNoKey b UnorderedKey = IsUtf8 b
IsNoKey b _ = ⊥

-- the first of the entries, if any, comes after this key
abbrev pub AllFollow : Option (List ℕ) → Entries → Type 0
AllFollow None es = ⊤
AllFollow (Some k) es = Precedes k es

-- `count` entries that the type accepts are at the front, after the last key, and their need is
-- within the steps left
pub record HasEntryRow {V : Type 0} (shape : Shape Entries V) (last : Option (List ℕ)) (count : ℕ) (r : Reading) : Type 0 where
  pub bytes : List ℕ
  pub entries : Entries
  pub rest : List ℕ
  pub left : r.left ≡ Some bytes
  pub counted : entry_count entries ≡ count
  pub follow : AllFollow last entries
  pub fronts : AreEntryFronts bytes entries rest
  pub accepted : is_some (shape.view entries) ≡ true
  pub within : shape.need entries ≤ r.steps

-- any entries
abbrev pub any_entries : Shape Entries Entries
any_entries = record { view = Some; need = entries_need; wants_loan = false; memory = takes_some }

-- `count` entries are at the front, the first with any key, within the steps left
abbrev pub HasEntries : ℕ → Reading → Type 0
HasEntries = HasEntryRow any_entries None

-- these entries were at the front, and were taken
pub record TakesEntries (old : Reading) (es : Entries) (new : Reading) : Type 0 where
  pub taken : (b : List ℕ) → old.left ≡ Some b → (rest : List ℕ) × AreEntryFronts b es rest
      × (entries_need es ≤ old.steps) × (new.left ≡ Some rest)
  pub same : Stays old new

-- Entries are read if and only if `count` of them, in key order, are there within the steps left.
abbrev pub ReadsEntries : {E : Type 0} → ℕ → Reading
    → Result (BTreeMap (String Global) Ipld) (DecodeError E) → Reading → Type 0
ReadsEntries count old result new = MatchResult result
    (λ m. (entry_count (ordered_entries (pairs_of m.entries)) ≡ count) × TakesEntries old (ordered_entries (pairs_of m.entries)) new)
    (λ e. RefusesOrLacksMemory (HasEntries count old) (EntriesCause count old.steps) old e new)
