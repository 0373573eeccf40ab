-- The lines that only this program writes.
use Rattle.std.specs.Prelude.{ℕ, List, ◌++◌, codes, decimal}
use Rattle.ipld_tree.specs.Cid.{CidParts}
use Rattle.text_cid.specs.Texts.{cid_text}
use Rattle.program_parts.specs.Lines.{line}

-- the line for a name that the bytes stored under it do not match
abbrev pub damaged_line : CidParts → List ℕ
damaged_line name = line (cid_text name ++ codes " other bytes")

-- the line of how many names are listed
abbrev pub holds_line : ℕ → List ℕ
holds_line count = line (codes "holds " ++ decimal count)

-- the message if no block has the name
abbrev pub no_block_line : List ℕ
no_block_line = line (codes "dagstore: no block has the name")

-- the message if no root is given, and none is stored
abbrev pub no_roots_line : List ℕ
no_roots_line = line (codes "dagstore: no roots are stored; name some, or add-root")

-- the line of how many sections a file had, all of which are stored
abbrev pub stored_line : ℕ → List ℕ
stored_line count = line (codes "stored " ++ decimal count)

-- the line of how many names were removed
abbrev pub removed_line : ℕ → List ℕ
removed_line count = line (codes "removed " ++ decimal count)
