-- What consecutive tokens encode: a part at the front of the bytes, and the rest that follows it.
use Rattle.std.specs.Prelude.{◌≡◌, ℕ, ◌≤◌, List, Option}
use Rattle.ipld_tree.specs.Tree.{Tree, text, Items, Entries, any_need, items_need, entries_need}
use Rattle.ipld_tree.specs.Spelling.{item_count, entry_count, IsFront, AreFronts, AreEntryFronts}
use Rattle.dagcbor_items.specs.Places.{Follows}

-- a key is at the front
abbrev pub SplitsKey : List ℕ → List ℕ → List ℕ → Type 0
SplitsKey b key rest = IsFront b (text key) rest

-- a key that may follow the previous one is at the front
abbrev pub SplitsKeyAfter : Option (List ℕ) → List ℕ → List ℕ → List ℕ → Type 0
SplitsKeyAfter previous b key rest = SplitsKey b key rest × Follows previous key

-- an item that takes no more than the steps is at the front
abbrev pub SplitsItem : List ℕ → ℕ → List ℕ → Type 0
SplitsItem b steps rest = (t : Tree) × IsFront b t rest × (any_need t ≤ steps)

-- `count` items are at the front
abbrev pub SplitsItems : List ℕ → ℕ → ℕ → List ℕ → Type 0
SplitsItems b count steps rest = (ts : Items) × (item_count ts ≡ count) × AreFronts b ts rest
    × (items_need ts ≤ steps)

-- `count` entries are at the front, in the order of their keys
abbrev pub SplitsEntries : List ℕ → ℕ → ℕ → List ℕ → Type 0
SplitsEntries b count steps rest = (es : Entries) × (entry_count es ≡ count) × AreEntryFronts b es rest
    × (entries_need es ≤ steps)
