-- The trees of values that hold others.
use Rattle.std.specs.Prelude.{ℕ, List, ◌∷◌, Option, None, Some, option_map}
use Rattle.std.specs.Fmt.{◌++?◌}
use Rattle.ipld_tree.specs.Tree.{Tree, null, text, mapping, no_entries, entry}
use Rattle.ipld_tree.specs.Spelled.{spelled, spelled_head}

-- the trees of a key and of its value
abbrev pub Pair : Type 0
Pair = Option Tree × Option Tree

-- `None` is written as null, and `Some` as its part
abbrev pub option_tree : {A : Type 0} → (A → Option Tree) → Option A → Option Tree
option_tree tree None = Some null
option_tree tree (Some x) = tree x

-- a field of a struct: its name is the key
abbrev pub field : List ℕ → Option Tree → Pair
field name value = (Some (text name), value)

-- a field before others, left out if it has no value
abbrev pub optional : {A : Type 0} → List ℕ → (A → Option Tree) → Option A → List Pair → List Pair
optional name tree None others = others
optional name tree (Some x) others = field name (tree x) ∷ others

-- a variant that holds something: a map of one entry, from the variant's name to what it holds
abbrev pub variant_tree : List ℕ → Option Tree → Option Tree
variant_tree name part = option_map (λ t. mapping (entry name t no_entries)) part

-- the bytes before what a variant holds
abbrev pub variant_head : List ℕ → Option (List ℕ)
variant_head name = spelled_head 5 1 ++? spelled (text name)
