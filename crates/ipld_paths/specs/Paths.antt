-- Paths in data, as in `ipfs dag get CID/a/0`: lists of segments (IPLD data model, pathing).
use Rattle.std.specs.Prelude.{◌≡◌, ◌⊎◌, ℕ, zero, suc, List, [], ◌∷◌, nat_eq, if◌then◌else◌}
use Rattle.std.specs.Fmt.{decimal}
use Rattle.ipld_tree.specs.Tree.{Tree, list, mapping, Items, no_items, item, Entries, no_entries, entry}

-- ---- paths as texts

-- the byte is put before the first piece
abbrev pub onto_first : ℕ → List (List ℕ) → List (List ℕ)
onto_first b [] = (b ∷ []) ∷ []
onto_first b (s ∷ more) = (b ∷ s) ∷ more

-- the pieces of a text between its slashes
abbrev pub pieces : List ℕ → List (List ℕ)
pieces [] = [] ∷ []
pieces (b ∷ bs) = if nat_eq b 0x2f then [] ∷ pieces bs else onto_first b (pieces bs)

-- the pieces that are not empty
abbrev pub without_empty : List (List ℕ) → List (List ℕ)
without_empty [] = []
without_empty ([] ∷ more) = without_empty more
without_empty ((b ∷ s) ∷ more) = (b ∷ s) ∷ without_empty more

-- the segments of a path that is a text: the pieces that are not empty; nothing is escaped
abbrev pub segments : List ℕ → List (List ℕ)
segments path = without_empty (pieces path)

-- ---- where paths lead

-- the item with this index, counted from 0, is `found`
abbrev pub IsItemAt : ℕ → Items → Tree → Type 0
IsItemAt n no_items found = ⊥
IsItemAt zero (item t ts) found = t ≡ found
IsItemAt (suc n) (item t ts) found = IsItemAt n ts found

-- an entry has this key, and its value is `found`
abbrev pub IsValueOf : List ℕ → Entries → Tree → Type 0
IsValueOf key no_entries found = ⊥
IsValueOf key (entry k t es) found = ((k ≡ key) × (t ≡ found)) ⊎ IsValueOf key es found

-- A segment leads from a map to the value of that key. It leads from a list to the item with that
-- index, in decimal, without a sign or leading zeros. From any other tree it leads nowhere.
abbrev pub IsPart : List ℕ → Tree → Tree → Type 0
IsPart segment (list ts) found = (n : ℕ) × (segment ≡ decimal n) × IsItemAt n ts found
IsPart segment (mapping es) found = IsValueOf segment es found
IsPart segment _ found = ⊥

-- The path leads from the tree to `found`. Each segment leads to a part of the tree reached before;
-- the empty path leads to the tree itself.
abbrev pub At : List (List ℕ) → Tree → Tree → Type 0
At [] t found = t ≡ found
At (segment ∷ more) t found = (part : Tree) × IsPart segment t part × At more part found
