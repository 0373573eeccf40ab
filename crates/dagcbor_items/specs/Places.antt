-- Keys that may come after others.
use Rattle.std.specs.Prelude.{List, ℕ, Option, None, Some, IsTrue, ⊤}
use Rattle.ipld_tree.specs.Key.{comes_before}

-- k may come after the previous key
abbrev pub Follows : Option (List ℕ) → List ℕ → Type 0
Follows None k = ⊤
Follows (Some l) k = IsTrue (comes_before l k)
