-- Events that make a tree, wherever the tree is put.
use Rattle.std.specs.Prelude.{◌≡◌, ℕ, ℤ, pos, map, List, [], ◌++◌, Bool, true, false, IsTrue, Some, None, ⊤}
use Rattle.serde.specs.Event.{Event, Log, Logs, Sends, Then, WritesSeq, flattens, nothing, boolean, unsigned, signed, text, octets}
use Rattle.ipld_tree.specs.Tree as tree
use Rattle.ipld_tree.specs.Tree.{Tree, null, list, mapping, items_of, ordered_entries}
use Rattle.ipld_tree.specs.Spelling.{IsSpelling}
use Rattle.dagcbor_write.specs.Trees.{Pair, field}
use Rattle.types_serde.specs.Building.{Level, in_map, in_link, rests, for_map, State, state, start, put, on_top, steps}
use Rattle.types_serde.specs.Blocks.{IsBlockOfLog}
use Rattle.types_serde.specs.Links.{WritesLink}

-- an item that comes here is an item: not the CID of a link, nor a map whose entries are taken
abbrev pub takes_items : Level → Bool
takes_items (in_map ps for_map n) = false
takes_items (in_link o) = false
takes_items _ = true

-- the state after the events is the state after the tree was put
abbrev pub MakesTree : List Event → Tree → Type 0
MakesTree es t = (s : State) → IsTrue (takes_items s.top) → steps es s ≡ on_top (put t) s

-- if the events so far are known, these are added to them
abbrev pub GrowsBy : List Event → Log → Log → Type 0
GrowsBy es None new = ⊤
GrowsBy es (Some before) new = new ≡ Some (before ++ es)

-- events that make the tree are sent
abbrev pub WritesEvents : Tree → Log → Log → Type 0
WritesEvents t old new = (es : List Event) × GrowsBy es old new × MakesTree es t

-- the entries in the form in which an open map has them
abbrev pub fields_of : List (List ℕ × Tree) → List Pair
fields_of ps = map (λ p. field p.0 (Some p.1)) ps

-- if the next map is flattened, these entries come after those that are there
abbrev pub AddsEntries : List Event → List (List ℕ × Tree) → Type 0
AddsEntries es ps = (qs : List Pair) (n : ℕ) (around : List Level)
    → steps es (state (in_map qs for_map n) around)
    ≡ Some (state (in_map (qs ++ fields_of ps) rests n) around)

-- events are sent that make the map of the entries, or add the entries if it is flattened
abbrev pub WritesEntries : List (List ℕ × Tree) → Log → Log → Type 0
WritesEntries ps old new = (es : List Event) × GrowsBy es old new
    × MakesTree es (mapping (ordered_entries ps)) × AddsEntries es ps

-- A value that is sent as a tree is written as the spelling of that tree.
abbrev pub TreesAreWritten : Type 0
TreesAreWritten = (t : Tree) (log : Log) (b : List ℕ) → WritesEvents t (Some []) log → IsBlockOfLog log b
    → IsSpelling b t

-- A value that is flattened into a map adds its entries to those of the map.
abbrev pub EntriesAreAdded : Type 0
EntriesAreAdded = (ps : List (List ℕ × Tree)) (before after : List Event) (qs : List Pair) (n : ℕ)
    (around : List Level) → Then (Sends flattens) (WritesEntries ps) (Some before) (Some after)
    → steps before start ≡ Some (state (in_map qs rests n) around)
    → steps after start ≡ Some (state (in_map (qs ++ fields_of ps) rests n) around)

-- A value that sends exactly these events sends a leaf.
abbrev pub LeavesAreWritten : Type 0
LeavesAreWritten = (a b : Log)
    → (Logs a b nothing → WritesEvents null a b)
    × ((v : Bool) → Logs a b (boolean v) → WritesEvents (tree.boolean v) a b)
    × ((n : ℕ) → Logs a b (unsigned n) → WritesEvents (tree.integer (pos n)) a b)
    × ((n : ℤ) → Logs a b (signed n) → WritesEvents (tree.integer n) a b)
    × ((v : List ℕ) → Logs a b (text v) → WritesEvents (tree.text v) a b)
    × ((v : List ℕ) → Logs a b (octets v) → WritesEvents (tree.bytes v) a b)
    × ((cid : List ℕ) → WritesLink cid a b → WritesEvents (tree.link cid) a b)

-- A value that sends each item as a tree, as a `Vec` does, sends the list of these trees.
abbrev pub ListsAreWritten : {A : Type 0} → (A → Log → Log → Type 0) → Type 0
ListsAreWritten {A} writes = (view : A → Tree) (xs : List A) (old new : Log)
    → ((x : A) (a b : Log) → writes x a b → WritesEvents (view x) a b)
    → WritesSeq writes xs old new → WritesEvents (list (items_of (map view xs))) old new
