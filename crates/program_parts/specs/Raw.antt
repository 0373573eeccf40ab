-- The bytes of the item that a path leads to.
use Rattle.std.specs.Prelude.{◌≡◌, ◌⊎◌, ℕ, List, [], Bool, true, Some}
use Rattle.ipld_tree.specs.Cid.{CidParts}
use Rattle.ipld_tree.specs.Tree.{Tree}
use Rattle.dagcbor_decode.specs.Blocks.{IsBlock}
use Rattle.ipld_links.specs.Reaching.{Stored}
use Rattle.ipld_paths.specs.Laws.{Leads}
use Rattle.program_parts.specs.Ends.{IsToldAt}

-- The path leads from the root to a tree, and this is its block.
abbrev pub IsBlockAt : Stored → CidParts → List (List ℕ) → Bool → List ℕ → List ℕ → Type 0
IsBlockAt stored root path well out told = (n : ℕ) × (u : Tree) × Leads n stored root path (Some u)
    × (well ≡ true) × IsBlock out u × (told ≡ [])

-- what `at --raw` says of stored blocks
abbrev pub IsRawOf : Stored → CidParts → List (List ℕ) → Bool → List ℕ → List ℕ → Type 0
IsRawOf stored root path well out told =
    IsBlockAt stored root path well out told ⊎ IsToldAt stored root path well out told
