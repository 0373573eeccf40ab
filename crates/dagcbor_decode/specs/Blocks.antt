-- Blocks: the spellings of trees that a fresh reader reads within its steps.
use Rattle.std.specs.Prelude.{◌≡◌, ℕ, ◌≤◌, List}
use Rattle.dagcbor_core.specs.Steps.{default_steps}
use Rattle.ipld_tree.specs.Tree.{Tree, any_need, links_of}
use Rattle.ipld_tree.specs.Spelling.{IsSpelling, IsFront}

-- the bytes are the spelling of a tree that is read within `default_steps`
abbrev pub IsBlock : List ℕ → Tree → Type 0
IsBlock b t = IsSpelling b t × (any_need t ≤ default_steps)

-- the bytes begin with a tree that is read within `default_steps`, and these are its links
abbrev pub AreFirstLinks : List ℕ → List (List ℕ) → Type 0
AreFirstLinks b links = (t : Tree) × (rest : List ℕ) × IsFront b t rest
    × (any_need t ≤ default_steps) × (links ≡ links_of t)
