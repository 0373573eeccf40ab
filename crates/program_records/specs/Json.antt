-- The output for all records of a repository, as DAG-JSON.
use Rattle.std.specs.Prelude.{◌≡◌, ◌⊎◌, ℕ, List, [], ◌∷◌, ◌++◌, codes, Bool, true, false, ◌&&◌, ⊤}
use Rattle.ipld_tree.specs.Cid.{CidParts, cid_bytes}
use Rattle.ipld_links.specs.Reaching.{Stored}
use Rattle.text_dag_json.specs.DagJson.{json_text, link_text, map_text}
use Rattle.atproto_mst.specs.Keys.{Entry}
use Rattle.atproto_mst.specs.Entries.{entries}
use Rattle.atproto_mst.specs.Repos.{IsRepo}
use Rattle.types_repository.specs.declared.repository.Commit.{Commit}
use Rattle.atproto_mst.specs.declared.entries.MstEntry.{MstEntry}
use Rattle.program_parts.specs.Lines.{line}
use Rattle.program_records.specs.Keys.{key_text}
use Rattle.program_parts.specs.Holding.{TellsFault}
use Rattle.program_records.specs.Repositories.{IsFileHeld, IsUnreadOf}
use Rattle.program_records.specs.Records.{IsToldAlone, IsBlockSaid}

-- the line of a record with this data: a DAG-JSON map of its CID, its key and the data
abbrev pub json_line : Entry → List ℕ → List ℕ
json_line e json = line (map_text (
    (codes "cid", link_text (cid_bytes e.1))
    ∷ (codes "key", json_text (key_text e.0))
    ∷ (codes "value", json) ∷ []))

-- an error message after the key; an empty message stays empty
abbrev pub keyed : Entry → List ℕ → List ℕ
keyed e [] = []
keyed e (b ∷ text) = key_text e.0 ++ (codes ": " ++ b ∷ text)

-- for a record: its line, if `record` shows its data; and the error message of `record`
abbrev pub IsRecordSaid : Stored → Entry → Bool → List ℕ → List ℕ → Type 0
IsRecordSaid stored e well out told = (text : List ℕ) × (told ≡ keyed e text)
    × (((json : List ℕ) × IsBlockSaid stored e.1 true (line json) text
    × (well ≡ true) × (out ≡ json_line e json))
    ⊎ ((said : List ℕ) × IsBlockSaid stored e.1 false said text × (well ≡ false) × (out ≡ [])))

-- for these records, in order; and whether the data of each is shown
abbrev pub AreRecordsSaid : Stored → List Entry → Bool → List ℕ → List ℕ → Type 0
AreRecordsSaid stored [] well out told = (well ≡ true) × (out ≡ []) × (told ≡ [])
AreRecordsSaid stored (e ∷ es) well out told =
    (first others : Bool) × (line lines text texts : List ℕ)
    × IsRecordSaid stored e first line text × AreRecordsSaid stored es others lines texts
    × (well ≡ (first && others)) × (out ≡ line ++ lines) × (told ≡ text ++ texts)

-- for the records of the repository whose commit is the first root; or a line that says why there
-- is no repository
abbrev pub IsHeldSaid : Stored → List CidParts → Bool → List ℕ → List ℕ → Type 0
IsHeldSaid stored roots well out told = ((root : CidParts) × (others : List CidParts)
    × (c : Commit) × (records : List MstEntry) × (roots ≡ root ∷ others)
    × IsRepo stored root c records × AreRecordsSaid stored (entries records) well out told)
    ⊎ ((text : List ℕ) × IsUnreadOf stored roots text × IsToldAlone text well out told)

-- for a file: the output for its roots and sections; or only a line that says why the bytes are not
-- a CAR file
abbrev pub IsRecordsJson : List ℕ → Bool → List ℕ → List ℕ → Type 0
IsRecordsJson b well out told = ((roots : List CidParts) × (stored : Stored)
    × IsFileHeld b roots stored × IsHeldSaid stored roots well out told)
    ⊎ ((text : List ℕ) × TellsFault (λ sections. ⊤) b text × IsToldAlone text well out told)
