-- The one spelling of a tree in DAG-CBOR (DAG-CBOR specification, strictness), item by item as in
-- RFC 8949, section 3.
use Rattle.std.specs.Prelude.{◌≡◌, ℕ, suc, ℤ, pos, negsuc, ◌+◌, ◌^◌, ◌<◌, Bool, true, false, List, [], ◌∷◌, ◌++◌, length, ⊤}
use Rattle.dagcbor_core.specs.Head.{head}
use Rattle.ipld_tree.specs.Tree.{Tree, null, boolean, integer, text, bytes, list, mapping, link, Items, no_items, item, Entries, no_entries, entry, IsTree, AreItems, AreEntries}

-- how many items a list has
abbrev pub item_count : Items → ℕ
item_count no_items = 0
item_count (item t ts) = suc (item_count ts)

-- how many entries a map has
abbrev pub entry_count : Entries → ℕ
entry_count no_entries = 0
entry_count (entry k t es) = suc (entry_count es)

-- from - 2 ^ 64 to 2 ^ 64 - 1; `negsuc n` is - 1 - n
abbrev pub IsInRange : ℤ → Type 0
IsInRange (pos n) = n < 2 ^ 64
IsInRange (negsuc n) = n < 2 ^ 64

-- each number is in range, and each length and count is below 2 ^ 64
abbrev mutual
  pub IsSpellable : Tree → Type 0
  IsSpellable null = ⊤
  IsSpellable (boolean b) = ⊤
  IsSpellable (integer n) = IsInRange n
  IsSpellable (text s) = length s < 2 ^ 64
  IsSpellable (bytes s) = length s < 2 ^ 64
  IsSpellable (list ts) = (item_count ts < 2 ^ 64) × AreSpellableItems ts
  IsSpellable (mapping es) = (entry_count es < 2 ^ 64) × AreSpellableEntries es
  IsSpellable (link cid) = 1 + length cid < 2 ^ 64

  pub AreSpellableItems : Items → Type 0
  AreSpellableItems no_items = ⊤
  AreSpellableItems (item t ts) = IsSpellable t × AreSpellableItems ts

  pub AreSpellableEntries : Entries → Type 0
  AreSpellableEntries no_entries = ⊤
  AreSpellableEntries (entry k t es) = (length k < 2 ^ 64) × IsSpellable t × AreSpellableEntries es

-- simple value 20 or 21
abbrev pub boolean_spelling : Bool → List ℕ
boolean_spelling false = 0xf4 ∷ []
boolean_spelling true = 0xf5 ∷ []

-- major type 0, or major type 1 for a negative integer
abbrev pub integer_spelling : ℤ → List ℕ
integer_spelling (pos n) = head 0 n
integer_spelling (negsuc n) = head 1 n

-- major type 2: the length, and the bytes
abbrev pub bytes_spelling : List ℕ → List ℕ
bytes_spelling s = head 2 (length s) ++ s

-- major type 3: the length, and the bytes of the text
abbrev pub text_spelling : List ℕ → List ℕ
text_spelling s = head 3 (length s) ++ s

-- null, false and true are the only simple values; a link is tag 42 and a byte string of a zero and
-- its CID (DAG-CBOR specification, links)
abbrev mutual
  pub spelling : Tree → List ℕ
  spelling null = 0xf6 ∷ []
  spelling (boolean b) = boolean_spelling b
  spelling (integer n) = integer_spelling n
  spelling (text s) = text_spelling s
  spelling (bytes s) = bytes_spelling s
  spelling (list ts) = head 4 (item_count ts) ++ items_spelling ts
  spelling (mapping es) = head 5 (entry_count es) ++ entries_spelling es
  spelling (link cid) = 0xd8 ∷ 0x2a ∷ bytes_spelling (0x00 ∷ cid)

  pub items_spelling : Items → List ℕ
  items_spelling no_items = []
  items_spelling (item t ts) = spelling t ++ items_spelling ts

  pub entries_spelling : Entries → List ℕ
  entries_spelling no_entries = []
  entries_spelling (entry k t es) = text_spelling k ++ (spelling t ++ entries_spelling es)

-- the bytes are the spelling of the tree
pub record IsSpelling (b : List ℕ) (t : Tree) : Type 0 where
  pub well_formed : IsTree t
  pub spellable : IsSpellable t
  pub is : b ≡ spelling t

-- the bytes begin with the spelling of t, and the rest follows
pub record IsFront (b : List ℕ) (t : Tree) (rest : List ℕ) : Type 0 where
  pub well_formed : IsTree t
  pub spellable : IsSpellable t
  pub is : b ≡ spelling t ++ rest

-- the bytes begin with the spellings of the items
pub record AreFronts (b : List ℕ) (ts : Items) (rest : List ℕ) : Type 0 where
  pub well_formed : AreItems ts
  pub spellable : AreSpellableItems ts
  pub is : b ≡ items_spelling ts ++ rest

-- the bytes begin with the spellings of the entries
pub record AreEntryFronts (b : List ℕ) (es : Entries) (rest : List ℕ) : Type 0 where
  pub well_formed : AreEntries es
  pub spellable : AreSpellableEntries es
  pub is : b ≡ entries_spelling es ++ rest
