-- Stored repositories (AT Protocol specification, repository).
use Rattle.std.specs.Prelude.{◌≡◌, ◌≢◌, ℕ, List, None, Some}
use Rattle.ipld_tree.specs.Cid.{CidParts}
use Rattle.dagcbor_write.specs.Answers.{AreSpellingOf}
use Rattle.ipld_links.specs.Names.{block_name}
use Rattle.ipld_links.specs.Reaching.{Stored}
use Rattle.atproto_mst.specs.Commits.{commit_tree}
use Rattle.atproto_mst.specs.UnreadCommits.{UnreadCommit}
use Rattle.atproto_mst.specs.Entries.{entries, IsMst}
use Rattle.atproto_mst.specs.Stops.{IsStoredNamed, MstRefused}
use Rattle.types_repository.specs.declared.repository.Commit.{Commit}
use Rattle.atproto_mst.specs.declared.entries.MstEntry.{MstEntry}
use Rattle.atproto_mst.specs.declared.error.MstError.TheVariants as tree
use Rattle.atproto_mst.specs.declared.repo_error.RepoError.{RepoError}
use Rattle.atproto_mst.specs.declared.repo_error.RepoError.TheVariants as error

-- the block is stored under its name
abbrev pub IsOwnBlock : Stored → CidParts → List ℕ → Type 0
IsOwnBlock stored name b = (stored name ≡ Some b) × (name ≡ block_name b)

-- the commit's block is stored under its name, and its version is 3
abbrev pub IsStoredCommit : Stored → CidParts → Commit → Type 0
IsStoredCommit stored name c = (c.version ≡ 3)
    × ((b : List ℕ) × IsOwnBlock stored name b × AreSpellingOf (commit_tree c) b)

-- the commit is stored under the name, and its tree has these records
abbrev pub IsRepo : Stored → CidParts → Commit → List MstEntry → Type 0
IsRepo stored name c records = IsStoredCommit stored name c × IsMst stored c.data (entries records)

-- ---- why it is not read

-- why a commit is not read; out of memory, only if a block is stored under its name
abbrev pub CommitRefused : Stored → CidParts → RepoError → Type 0
CommitRefused stored name error.OutOfMemory = IsStoredNamed stored name
CommitRefused stored name error.Missing = stored name ≡ None
CommitRefused stored name error.OtherBytes = (b : List ℕ) × (stored name ≡ Some b) × (name ≢ block_name b)
CommitRefused stored name (error.NoCommit e) = (b : List ℕ) × IsOwnBlock stored name b
    × UnreadCommit b (error.NoCommit e)
CommitRefused stored name (error.OtherVersion n) = (b : List ℕ) × (c : Commit) × IsOwnBlock stored name b
    × AreSpellingOf (commit_tree c) b × (c.version ≡ n) × (n ≢ 3)
CommitRefused stored name _ = ⊥

-- why a repository is not read; out of memory in the tree counts as out of memory of the whole
abbrev pub RepoRefused : Stored → CidParts → RepoError → Type 0
RepoRefused stored name (error.Tree e) = (e ≢ tree.OutOfMemory)
    × ((c : Commit) × IsStoredCommit stored name c × MstRefused stored c.data e)
RepoRefused stored name e = CommitRefused stored name e
