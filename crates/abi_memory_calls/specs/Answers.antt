-- What is returned for a CAR file as a repository, for its commit, and for a record.
use Rattle.std.specs.Prelude.{◌≡◌, ◌⊎◌, ℕ, ℤ, pos, negsuc, List, [], true, false, Result, MatchResult, Vec}
use Rattle.std.specs.declared.alloc.Global.{Global}
use Rattle.ipld_tree.specs.Cid.{CidParts}
use Rattle.types_repository.specs.declared.repository.Commit.{Commit}
use Rattle.atproto_mst.specs.Entries.{entries}
use Rattle.atproto_mst.specs.declared.entries.MstEntry.{MstEntry}
use Rattle.program_records.specs.Repositories.{IsRepoFile, IsNoRepoFile}
use Rattle.program_records.specs.Commits.{OfFile, IsCommitFile, IsNoCommitFile}
use Rattle.program_records.specs.Proofs.{IsProofAt}
use Rattle.abi_calls.specs.CidTexts.{IsPutText, PutsNone}
use Rattle.abi_memory_calls.specs.Blocks.{repo_tree, commit_tree, IsBlockOf}

-- the bytes are made, or the line that says why not
abbrev pub IsMadeOrTold : (IsMade IsTold : List ℕ → Type 0) → Result (Vec ℕ Global) (Vec ℕ Global) → Type 0
IsMadeOrTold IsMade IsTold answer = MatchResult answer (λ made. IsMade made.items) (λ line. IsTold line.items)

-- ---- what is made

-- the block describes the repository that the bytes are
abbrev pub IsRepoBlock : List ℕ → List ℕ → Type 0
IsRepoBlock b block = (c : Commit) × (records : List MstEntry) × IsRepoFile b c records
    × IsBlockOf (λ signed. repo_tree c signed (entries records)) c block

-- the block describes the commit that the first root of the file names
abbrev pub IsCommitBlock : List ℕ → List ℕ → Type 0
IsCommitBlock b block = (name : CidParts) × (c : Commit) × IsCommitFile b name c
    × IsBlockOf (commit_tree name c) c block

-- `record-proof` writes this file of the file and the key, which proves the record, and no message
abbrev pub IsProofFile : List ℕ → List ℕ → List ℕ → Type 0
IsProofFile b key proof = OfFile (IsProofAt key) b true proof []

-- `record-proof` writes no file, but this line as a message
abbrev pub IsNoProofFile : List ℕ → List ℕ → List ℕ → Type 0
IsNoProofFile b key line = OfFile (IsProofAt key) b false [] line

-- ---- by the C ABI

-- memory ran out, and -42 is returned
abbrev pub WantsMemory : List ℕ → List ℕ → ℕ → ℤ → Type 0
WantsMemory old new needed code = (code ≡ negsuc 41) × PutsNone old new needed

-- the bytes are put; or the line that says why there are none; or memory ran out
abbrev pub IsEitherPut : (IsMade IsTold : List ℕ → Type 0) → List ℕ → List ℕ → ℕ → ℤ → Type 0
IsEitherPut IsMade IsTold old new needed code =
    ((made : List ℕ) × IsMade made × IsPutText (pos 0) made old new needed code)
    ⊎ (((line : List ℕ) × IsTold line × IsPutText (pos 1) line old new needed code)
    ⊎ WantsMemory old new needed code)

abbrev pub IsRepositoryAnswer : List ℕ → List ℕ → List ℕ → ℕ → ℤ → Type 0
IsRepositoryAnswer b old new needed code =
    IsEitherPut (IsRepoBlock b) (IsNoRepoFile b) old new needed code

abbrev pub IsCommitAnswer : List ℕ → List ℕ → List ℕ → ℕ → ℤ → Type 0
IsCommitAnswer b old new needed code =
    IsEitherPut (IsCommitBlock b) (IsNoCommitFile b) old new needed code

abbrev pub IsProofAnswer : (b key : List ℕ) → List ℕ → List ℕ → ℕ → ℤ → Type 0
IsProofAnswer b key old new needed code =
    IsEitherPut (IsProofFile b key) (IsNoProofFile b key) old new needed code
