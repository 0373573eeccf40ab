-- Several trees, one after another.
use Rattle.std.specs.Prelude.{ℕ, List, [], ◌∷◌, ◌++◌, Option, Some, IfSome, ⊤}
use Rattle.std.specs.Fmt.{◌++?◌}
use Rattle.ipld_tree.specs.Tree.{Tree, IsTree}
use Rattle.ipld_tree.specs.Spelled.{spelled_tree}

-- the spellings of the trees, one after the other
abbrev pub spelled_each : List (Option Tree) → Option (List ℕ)
spelled_each [] = Some []
spelled_each (o ∷ os) = spelled_tree o ++? spelled_each os

-- each tree is well-formed
abbrev pub AreTrees : List (Option Tree) → Type 0
AreTrees [] = ⊤
AreTrees (o ∷ os) = IfSome o IsTree × AreTrees os

-- four lists, one after the other
abbrev pub in_turn : {A : Type 0} → List A → List A → List A → List A → List A
in_turn a b c d = a ++ (b ++ (c ++ d))
