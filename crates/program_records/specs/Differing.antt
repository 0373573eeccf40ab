-- The output for two files of repositories.
use Rattle.std.specs.Prelude.{◌≡◌, ◌⊎◌, ℕ, List, [], ◌∷◌, ◌++◌, codes, flat_map, Bool, true, Option, None, Some}
use Rattle.ipld_tree.specs.Cid.{CidParts}
use Rattle.text_cid.specs.Texts.{cid_text}
use Rattle.atproto_mst.specs.Changes.{Changed, AreChanges}
use Rattle.atproto_mst.specs.Entries.{entries}
use Rattle.types_repository.specs.declared.repository.Commit.{Commit}
use Rattle.atproto_mst.specs.declared.entries.MstEntry.{MstEntry}
use Rattle.program_parts.specs.Lines.{line}
use Rattle.program_records.specs.Keys.{key_text}
use Rattle.program_records.specs.Repositories.{IsRepoFile, IsNoRepoFile}
use Rattle.program_records.specs.Records.{IsToldAlone}

-- ---- a line

-- the word for what happened to a record
abbrev pub change_word : Option CidParts → Option CidParts → List ℕ
change_word None new = codes "added "
change_word (Some old) None = codes "removed "
change_word (Some old) (Some new) = codes "changed "

-- a space and a CID, if there is one
abbrev pub name_word : Option CidParts → List ℕ
name_word None = []
name_word (Some name) = 32 ∷ cid_text name

-- the line of a key whose record differs: what happened, the key, and the CIDs of the record before
-- and after
abbrev pub change_line : Changed → List ℕ
change_line c = line (change_word c.1.0 c.1.1 ++ (key_text c.0 ++ (name_word c.1.0 ++ name_word c.1.1)))

-- ---- two files

-- for a new file and these records: a line for each key whose records differ, in key order; or only
-- an error message that says why it is not a repository
abbrev pub IsChangesTo : List MstEntry → List ℕ → Bool → List ℕ → List ℕ → Type 0
IsChangesTo before new well out told =
    ((c : Commit) × (after : List MstEntry) × (cs : List Changed) × IsRepoFile new c after
    × AreChanges (entries before) (entries after) cs × (well ≡ true)
    × (out ≡ flat_map change_line cs) × (told ≡ []))
    ⊎ ((text : List ℕ) × IsNoRepoFile new text × IsToldAlone (codes "new: " ++ text) well out told)

-- for two files: the output for the new one and the records of the old one; or only an error
-- message that says why the old one is not a repository
abbrev pub IsChangesOf : List ℕ → List ℕ → Bool → List ℕ → List ℕ → Type 0
IsChangesOf old new well out told =
    ((c : Commit) × (before : List MstEntry) × IsRepoFile old c before
    × IsChangesTo before new well out told)
    ⊎ ((text : List ℕ) × IsNoRepoFile old text × IsToldAlone (codes "old: " ++ text) well out told)
