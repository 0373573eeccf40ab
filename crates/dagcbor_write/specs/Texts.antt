-- Entries of a map whose keys are texts.
use Rattle.std.specs.Prelude.{List, map, Option, Some, String, string_bytes}
use Rattle.std.specs.declared.alloc.Global.{Global}
use Rattle.ipld_tree.specs.Tree.{Tree, text}
use Rattle.dagcbor_write.specs.declared.types.texts.TextEntry.{TextEntry}
use Rattle.dagcbor_write.specs.Trees.{Pair, field}

-- the trees of the key and of the value
abbrev pub text_pair : {V : Type 0} → (V → Option Tree) → TextEntry V → Pair
text_pair tree e = field e.key.now (tree e.value.now)

-- the trees of the key and of the value of each entry
abbrev pub text_pairs : {V : Type 0} → (V → Option Tree) → List (TextEntry V) → List Pair
text_pairs tree row = map (text_pair tree) row

-- the trees of the keys and the values of a map
abbrev pub map_pairs : {V : Type 0} → (V → Option Tree) → List (String Global × V) → List Pair
map_pairs tree es = map (λ e. (Some (text (string_bytes e.0)), tree e.1)) es
