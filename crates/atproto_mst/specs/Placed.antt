-- Entries in memory, with the layers of their keys.
use Rattle.std.specs.Prelude.{List, map, [], ◌∷◌, ℕ, if◌then◌else◌, nat_lt}
use Rattle.atproto_mst.specs.Trees.{Leaf}
use Rattle.atproto_mst.specs.declared.leaves.Placed.{Placed}

abbrev pub told : Placed → Leaf
told p = record { layer = p.layer; key = p.key.now; value = p.value }

abbrev pub all_told : List Placed → List Leaf
all_told ps = map told ps

-- the leaves from the first that is not below the layer
abbrev pub upper_rest : ℕ → List Leaf → List Leaf
upper_rest n [] = []
upper_rest n (e ∷ es) = if nat_lt e.layer n then upper_rest n es else e ∷ es
