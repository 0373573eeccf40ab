-- The fields of a struct as a list of pairs: the name and the value of a field.
use Rattle.std.specs.Prelude.{List, ℕ, Option, None, if◌then◌else◌, bytes_eq}
use Rattle.serde_ipld_dagcbor.specs.Tree.{Tree}
use Rattle.serde_ipld_dagcbor.specs.Shapes.{Shape, owned_leaf, view_text}
use Rattle.serde_ipld_dagcbor.specs.Collections.{list_of, first_then, no_more}

-- a list of a text and a value
abbrev pub text_and_value : {V : Type 0} → Shape Tree V → Shape Tree (List ℕ × (V × Unit {0}))
text_and_value shape = list_of (first_then (owned_leaf view_text) (first_then shape no_more))

-- what is made from the value of a pair, if the pair's text is this name
abbrev pub named : {A B : Type 0} → List ℕ → List ℕ × (A × Unit {0}) → (A → Option B) → Option B
named name pair made = if bytes_eq pair.0 name then made pair.1.0 else None
