-- The data of DAG-CBOR, without floats (DAG-CBOR specification: the IPLD data model).
use Rattle.std.specs.Prelude.{ℕ, ℤ, ◌+◌, max, Bool, false, ◌||◌, List, [], ◌∷◌, ◌++◌, Option, Some, None, option_map, option_and_then, map, if◌then◌else◌, IsUtf8, IsTrue, ⊤}
use Rattle.std.specs.Ordering.{is_eq}
use Rattle.ipld_tree.specs.Key.{key_cmp, comes_before}
use Rattle.ipld_tree.specs.Cid.{IsCid}

-- the kinds of data; a link holds the binary form of its CID
mutual
  pub data Tree : Type 0 where
    null : Tree
    boolean : Bool → Tree
    integer : ℤ → Tree
    text : List ℕ → Tree
    bytes : List ℕ → Tree
    list : Items → Tree
    mapping : Entries → Tree
    link : List ℕ → Tree
    deriving Discrete as tree_discrete

  pub data Items : Type 0 where
    no_items : Items
    item : Tree → Items → Items

  pub data Entries : Type 0 where
    no_entries : Entries
    entry : List ℕ → Tree → Entries → Entries

-- k comes before the first key, if there is one
abbrev pub Precedes : List ℕ → Entries → Type 0
Precedes k no_entries = ⊤
Precedes k (entry l t es) = IsTrue (comes_before k l)

-- texts are UTF-8, keys are in rising order, each once, and links are CIDs
abbrev mutual
  pub IsTree : Tree → Type 0
  IsTree null = ⊤
  IsTree (boolean b) = ⊤
  IsTree (integer n) = ⊤
  IsTree (text s) = IsUtf8 s
  IsTree (bytes s) = ⊤
  IsTree (list ts) = AreItems ts
  IsTree (mapping es) = AreEntries es
  IsTree (link cid) = IsCid cid

  pub AreItems : Items → Type 0
  AreItems no_items = ⊤
  AreItems (item t ts) = IsTree t × AreItems ts

  pub AreEntries : Entries → Type 0
  AreEntries no_entries = ⊤
  AreEntries (entry k t es) = IsUtf8 k × IsTree t × Precedes k es × AreEntries es

-- ---- trees of lists and maps

-- the items of a list
abbrev pub items_of : List Tree → Items
items_of [] = no_items
items_of (t ∷ ts) = item t (items_of ts)

-- the pairs as entries, in the same order
abbrev pub entries_of : List (List ℕ × Tree) → Entries
entries_of [] = no_entries
entries_of (p ∷ ps) = entry p.0 p.1 (entries_of ps)

-- the entries, with t inserted under k in key order
abbrev pub insert : List ℕ → Tree → Entries → Entries
insert k t no_entries = entry k t no_entries
insert k t (entry l u es) =
    if comes_before k l then entry k t (entry l u es) else entry l u (insert k t es)

-- the pairs as entries, inserted in key order
abbrev pub ordered_entries : List (List ℕ × Tree) → Entries
ordered_entries [] = no_entries
ordered_entries (p ∷ ps) = insert p.0 p.1 (ordered_entries ps)

-- whether k is among the keys
abbrev pub has_key : List ℕ → List (List ℕ × Tree) → Bool
has_key k [] = false
has_key k (p ∷ ps) = is_eq (key_cmp k p.0) || has_key k ps

-- whether a key occurs twice
abbrev pub repeats_key : List (List ℕ × Tree) → Bool
repeats_key [] = false
repeats_key (p ∷ ps) = has_key p.0 ps || repeats_key ps

-- the map of the pairs, or `None` if a key repeats
abbrev pub map_tree : List (List ℕ × Tree) → Option Tree
map_tree ps = if repeats_key ps then None else Some (mapping (ordered_entries ps))

-- the list of all values, or `None` if one is missing
abbrev pub all_some : {A : Type 0} → List (Option A) → Option (List A)
all_some [] = Some []
all_some (o ∷ os) = option_and_then (λ a. option_map (λ more. a ∷ more) (all_some os)) o

-- the list of the parts' trees, or `None` if a part has no tree
abbrev pub list_tree : List (Option Tree) → Option Tree
list_tree ts = option_map (λ found. list (items_of found)) (all_some ts)

-- the key that a tree is: a text's bytes, and else `None`
abbrev pub key_of : Tree → Option (List ℕ)
key_of null = None
key_of (boolean b) = None
key_of (integer n) = None
key_of (text s) = Some s
key_of (bytes s) = None
key_of (list ts) = None
key_of (mapping es) = None
key_of (link cid) = None

-- a key and its value, if the key is a text and both have trees
abbrev pub pair_of : Option Tree × Option Tree → Option (List ℕ × Tree)
pair_of p = option_and_then (λ k. option_map (λ t. (k, t)) p.1) (option_and_then key_of p.0)

-- the map of the keys' and the values' trees, or `None` if there is no such map
abbrev pub entries_tree : List (Option Tree × Option Tree) → Option Tree
entries_tree ps = option_and_then map_tree (all_some (map pair_of ps))

-- the tree is of a kind without bytes or parts of its own, so its value takes no memory
abbrev pub IsBare : Tree → Type 0
IsBare null = ⊤
IsBare (boolean b) = ⊤
IsBare (integer n) = ⊤
IsBare (text s) = ⊥
IsBare (bytes s) = ⊥
IsBare (list ts) = ⊥
IsBare (mapping es) = ⊥
IsBare (link cid) = ⊤

-- ---- depth and links

-- The steps that an untyped read takes: 1 for a leaf, and for a list or a map 2 plus the greatest
-- need inside.
abbrev mutual
  pub any_need : Tree → ℕ
  any_need null = 1
  any_need (boolean b) = 1
  any_need (integer n) = 1
  any_need (text s) = 1
  any_need (bytes s) = 1
  any_need (list ts) = 2 + items_need ts
  any_need (mapping es) = 2 + entries_need es
  any_need (link cid) = 1

  pub items_need : Items → ℕ
  items_need no_items = 0
  items_need (item t ts) = max (any_need t) (items_need ts)

  pub entries_need : Entries → ℕ
  entries_need no_entries = 0
  entries_need (entry k t es) = max (any_need t) (entries_need es)

-- the links in order, with repeats
abbrev mutual
  pub links_of : Tree → List (List ℕ)
  links_of null = []
  links_of (boolean b) = []
  links_of (integer n) = []
  links_of (text s) = []
  links_of (bytes s) = []
  links_of (list ts) = items_links ts
  links_of (mapping es) = entries_links es
  links_of (link cid) = cid ∷ []

  pub items_links : Items → List (List ℕ)
  items_links no_items = []
  items_links (item t ts) = links_of t ++ items_links ts

  pub entries_links : Entries → List (List ℕ)
  entries_links no_entries = []
  entries_links (entry k t es) = links_of t ++ entries_links es
