-- What `get` writes for a random-access file.
use Rattle.std.specs.Prelude.{◌≡◌, ◌⊎◌, ℕ, List, [], codes, Bool, true, false}
use Rattle.ipld_tree.specs.Cid.{CidParts}
use Rattle.ipld_links.specs.Verdicts.{IsVerified}
use Rattle.ipld_links.specs.Collisions.{Collides}
use Rattle.program_parts.specs.Lines.{line}
use Rattle.program_dagcar.specs.Finding.{IsGot}
use Rattle.program_index.specs.Finds.{IsListed}
use Rattle.program_index.specs.Layouts.{HasIndex}

-- the error line of `get` if the index does not lead to a block that the file has
abbrev pub no_entry_line : List ℕ
no_entry_line = line (codes "dagcar: the index has no right entry of this block")

-- what `get` writes for a file whose index does not lead to the block: the same as for any file,
-- and if the block is found, an error line
abbrev pub IsGotPast : CidParts → List ℕ → Bool → List ℕ → List ℕ → Type 0
IsGotPast name b well out told = ((well ≡ true) × (told ≡ no_entry_line) × IsGot name b true out [])
    ⊎ ((well ≡ false) × IsGot name b false out told)

-- What `get` writes for a random-access file. Without an index: the same as for any file. With one:
-- a block whose bytes match the CID; or, if the index does not list such a block, what it writes
-- past the index.
abbrev pub IsGotNamed : CidParts → List ℕ → Bool → List ℕ → List ℕ → Type 0
IsGotNamed name b well out told = ((¬ HasIndex b) × IsGot name b well out told)
    ⊎ (HasIndex b × (((well ≡ true) × (told ≡ []) × IsVerified (name, out))
    ⊎ ((¬ IsListed b name) × IsGotPast name b well out told)))

-- The block that `get` writes for a file with an index is the one that it writes without, for that
-- file or any other; or two different byte strings with the same SHA-256 are at hand.
abbrev pub IndexGivesTheBlock : Type 0
IndexGivesTheBlock = (name : CidParts) (b other block plain told : List ℕ) → IsGotNamed name b true block told
    → IsGot name other true plain [] → (block ≡ plain) ⊎ Collides
