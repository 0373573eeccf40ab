-- The output for a repository's commit.
use Rattle.std.specs.Prelude.{◌≡◌, ◌⊎◌, ℕ, List, [], ◌∷◌, ◌++◌, codes, string_bytes, Bool, true, false, Option, None, Some, ⊤}
use Rattle.ipld_tree.specs.Cid.{CidParts}
use Rattle.text_cid.specs.Texts.{cid_text}
use Rattle.ipld_links.specs.Reaching.{Stored}
use Rattle.atproto_mst.specs.Repos.{IsStoredCommit, CommitRefused}
use Rattle.types_repository.specs.declared.repository.Commit.{Commit}
use Rattle.atproto_mst.specs.declared.repo_error.RepoError.{RepoError}
use Rattle.program_parts.specs.Lines.{line}
use Rattle.program_parts.specs.Holding.{TellsFault}
use Rattle.program_records.specs.Keys.{key_text}
use Rattle.program_records.specs.Words.{IsOfRepo, repo_line, no_root_line}
use Rattle.program_records.specs.Repositories.{IsFileHeld, OfFirstRoot}
use Rattle.program_records.specs.Records.{IsToldAlone}

-- the CID of the commit before, or `none`
abbrev pub prev_text : Option CidParts → List ℕ
prev_text (Some name) = cid_text name
prev_text None = codes "none"

-- The lines of a commit: its CID, the DID of the account, the revision, the root of the tree, and
-- the commit before. A DID and a revision are escaped as keys are.
abbrev pub commit_lines : CidParts → Commit → List ℕ
commit_lines name c = line (codes "commit " ++ cid_text name)
    ++ (line (codes "did " ++ key_text (string_bytes c.did))
    ++ (line (codes "rev " ++ key_text (string_bytes c.rev))
    ++ (line (codes "data " ++ cid_text c.data)
    ++ line (codes "prev " ++ prev_text c.prev))))

-- there is no commit of this CID, and an error message says why
abbrev pub IsNoCommitTold : Stored → CidParts → Bool → List ℕ → List ℕ → Type 0
IsNoCommitTold stored root well out told = ((c : Commit) → ¬ IsStoredCommit stored root c)
    × ((e : RepoError) × CommitRefused stored root e × IsOfRepo e
    × IsToldAlone (repo_line root e) well out told)

-- for the commit of this CID: its fields; or that there is none
abbrev pub IsCommitSaid : Stored → CidParts → Bool → List ℕ → List ℕ → Type 0
IsCommitSaid stored root well out told = ((c : Commit) × IsStoredCommit stored root c
    × (well ≡ true) × (out ≡ commit_lines root c) × (told ≡ []))
    ⊎ IsNoCommitTold stored root well out told

-- for roots and stored blocks: the output for the first root; or that there is no root
abbrev pub OfRoots : (Stored → CidParts → Bool → List ℕ → List ℕ → Type 0)
    → Stored → List CidParts → Bool → List ℕ → List ℕ → Type 0
OfRoots IsSaid stored roots well out told =
    OfFirstRoot (λ root. IsSaid stored root well out told) (IsToldAlone no_root_line well out told) roots

-- for a file: the output for its roots and blocks; or why the bytes are not a CAR file
abbrev pub OfFile : (Stored → CidParts → Bool → List ℕ → List ℕ → Type 0)
    → List ℕ → Bool → List ℕ → List ℕ → Type 0
OfFile IsSaid b well out told = ((roots : List CidParts) × (stored : Stored)
    × IsFileHeld b roots stored × OfRoots IsSaid stored roots well out told)
    ⊎ ((line : List ℕ) × TellsFault (λ sections. ⊤) b line × IsToldAlone line well out told)

-- ---- of a file

-- the bytes are a CAR file whose first root is this commit, which is stored; nothing is required of
-- other blocks
abbrev pub IsCommitFile : List ℕ → CidParts → Commit → Type 0
IsCommitFile b name c = (others : List CidParts) × (stored : Stored)
    × IsFileHeld b (name ∷ others) stored × IsStoredCommit stored name c

-- the bytes are not such a file, and the line says why
abbrev pub IsNoCommitFile : List ℕ → List ℕ → Type 0
IsNoCommitFile b line = OfFile IsNoCommitTold b false [] line
