-- The output for a repository's records.
use Rattle.std.specs.Prelude.{◌≡◌, ◌⊎◌, ℕ, List, [], ◌∷◌, ◌++◌, Bool, true, false, None, Some, ⊤, flat_map}
use Rattle.ipld_tree.specs.Cid.{CidParts}
use Rattle.text_cid.specs.Texts.{cid_text}
use Rattle.ipld_links.specs.Reaching.{Stored}
use Rattle.ipld_links.specs.Verdicts.{IsVerified, IsDagCbor, IsVerdict}
use Rattle.ipld_links.specs.declared.verdict.Verdict.{Verdict}
use Rattle.atproto_mst.specs.Keys.{Entry}
use Rattle.atproto_mst.specs.Entries.{entries}
use Rattle.atproto_mst.specs.Walks.{most_layers}
use Rattle.atproto_mst.specs.Finding.{FindsRecord, FindStops}
use Rattle.atproto_mst.specs.Repos.{IsStoredCommit, CommitRefused}
use Rattle.types_repository.specs.declared.repository.Commit.{Commit}
use Rattle.atproto_mst.specs.declared.entries.MstEntry.{MstEntry}
use Rattle.atproto_mst.specs.declared.error.MstError.{MstError}
use Rattle.atproto_mst.specs.declared.repo_error.RepoError.{RepoError}
use Rattle.program_parts.specs.Lines.{line, missing_line, verdict_line}
use Rattle.program_parts.specs.Shown.{IsShown}
use Rattle.program_parts.specs.Holding.{TellsFault}
use Rattle.program_records.specs.Keys.{key_text, IsNamedBy}
use Rattle.program_records.specs.Words.{IsOfTree, IsOfRepo, tree_line, repo_line, no_root_line, no_record_line, other_codec_line}
use Rattle.program_records.specs.Repositories.{IsFileHeld, OfFirstRoot, IsRepoFile, IsNoRepoFile}

-- only this error message, and no output
abbrev pub IsToldAlone : List ℕ → Bool → List ℕ → List ℕ → Type 0
IsToldAlone text well out told = (well ≡ false) × (out ≡ []) × (told ≡ text)

-- ---- all records

-- the line of a record: its key and its CID
abbrev pub record_line : Entry → List ℕ
record_line e = line (key_text e.0 ++ (32 ∷ cid_text e.1))

-- for a file: a line for each record of the repository; or only a line that says why it is not a
-- repository
abbrev pub IsRecords : List ℕ → Bool → List ℕ → List ℕ → Type 0
IsRecords b well out told = ((c : Commit) × (records : List MstEntry) × IsRepoFile b c records
    × (well ≡ true) × (out ≡ flat_map record_line (entries records)) × (told ≡ []))
    ⊎ ((line : List ℕ) × IsNoRepoFile b line × IsToldAlone line well out told)

-- ---- one record

-- for bytes that match a record's CID: their data if its codec is DAG-CBOR; otherwise a message
-- with the codec
abbrev pub AreVerifiedSaid : CidParts → List ℕ → Bool → List ℕ → List ℕ → Type 0
AreVerifiedSaid name b well out told = (IsDagCbor name × IsShown b well out told)
    ⊎ ((¬ IsDagCbor name) × IsToldAlone (other_codec_line name) well out told)

-- for bytes under a record's CID: the above if they match it; otherwise the verdict on them
abbrev pub AreBytesSaid : CidParts → List ℕ → Bool → List ℕ → List ℕ → Type 0
AreBytesSaid name b well out told = (IsVerified (name, b) × AreVerifiedSaid name b well out told)
    ⊎ ((¬ IsVerified (name, b)) × ((v : Verdict) × IsVerdict (name, b) v
    × IsToldAlone (verdict_line ((name, b), v)) well out told))

-- for a record's CID: the output for the bytes under it, or that there are none
abbrev pub IsBlockSaid : Stored → CidParts → Bool → List ℕ → List ℕ → Type 0
IsBlockSaid stored name well out told =
    ((b : List ℕ) × (stored name ≡ Some b) × AreBytesSaid name b well out told)
    ⊎ ((stored name ≡ None) × IsToldAlone (missing_line name) well out told)

-- for the key in the tree of this root: its record; or that it has none; or why it is not known
abbrev pub IsSaidOfKey : Stored → List ℕ → CidParts → Bool → List ℕ → List ℕ → Type 0
IsSaidOfKey stored key tree well out told =
    ((name : CidParts) × FindsRecord most_layers stored key tree (Some name) × IsBlockSaid stored name well out told)
    ⊎ ((FindsRecord most_layers stored key tree None × IsToldAlone no_record_line well out told)
    ⊎ ((e : MstError) × FindStops most_layers stored key tree e × IsOfTree e
    × IsToldAlone (tree_line e) well out told))

-- for the key in the tree of the commit of this CID; or why there is no commit
abbrev pub IsRecordAt : Stored → List ℕ → CidParts → Bool → List ℕ → List ℕ → Type 0
IsRecordAt stored key root well out told = ((c : Commit) × IsStoredCommit stored root c
    × IsSaidOfKey stored key c.data well out told)
    ⊎ (((c : Commit) → ¬ IsStoredCommit stored root c) × ((e : RepoError) × CommitRefused stored root e
    × IsOfRepo e × IsToldAlone (repo_line root e) well out told))

-- for the key in the tree of the commit that is the first root; or that there is no root
abbrev pub IsRecordOf : List ℕ → Stored → List CidParts → Bool → List ℕ → List ℕ → Type 0
IsRecordOf key stored roots well out told =
    OfFirstRoot (λ root. IsRecordAt stored key root well out told)
    (IsToldAlone no_root_line well out told) roots

-- for a file: the output for the key that the word names, with the file's roots and sections; or
-- only a line that says why the bytes are not a CAR file
abbrev pub IsRecord : List ℕ → List ℕ → Bool → List ℕ → List ℕ → Type 0
IsRecord word b well out told = ((key : List ℕ) × (roots : List CidParts) × (stored : Stored)
    × IsNamedBy word key × IsFileHeld b roots stored × IsRecordOf key stored roots well out told)
    ⊎ ((line : List ℕ) × TellsFault (λ sections. ⊤) b line × IsToldAlone line well out told)
