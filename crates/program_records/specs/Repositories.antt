-- The repository in a CAR file.
use Rattle.std.specs.Prelude.{◌≡◌, ◌⊎◌, ℕ, List, [], ◌∷◌, ⊤}
use Rattle.ipld_tree.specs.Cid.{CidParts}
use Rattle.dagcbor_items.specs.Walks.{forms}
use Rattle.files_car.specs.Car.{Section}
use Rattle.files_car.specs.Versions.{IsFile}
use Rattle.ipld_links.specs.Reaching.{Stored}
use Rattle.atproto_mst.specs.Repos.{IsRepo, RepoRefused}
use Rattle.types_repository.specs.declared.repository.Commit.{Commit}
use Rattle.atproto_mst.specs.declared.entries.MstEntry.{MstEntry}
use Rattle.atproto_mst.specs.declared.repo_error.RepoError.{RepoError}
use Rattle.program_parts.specs.Holding.{Stores, TellsFault}
use Rattle.program_parts.specs.declared.holding.Kept.TheVariants as which
use Rattle.program_records.specs.Words.{IsOfRepo, repo_line, no_root_line}

-- the bytes are a CAR file of these roots, with these stored blocks
abbrev pub IsFileHeld : List ℕ → List CidParts → Stored → Type 0
IsFileHeld b roots stored = (sections : List Section) × IsFile b (forms roots) sections
    × Stores which.All sections stored

-- `IsSo` holds of the first root, whatever the others are; or there is no root, and `IsNone` holds
abbrev pub OfFirstRoot : (CidParts → Type 0) → Type 0 → List CidParts → Type 0
OfFirstRoot IsSo IsNone (root ∷ others) = IsSo root
OfFirstRoot IsSo IsNone [] = IsNone

-- the bytes are a CAR file whose first root is the commit of a whole repository of these records
abbrev pub IsRepoFile : List ℕ → Commit → List MstEntry → Type 0
IsRepoFile b c records = (root : CidParts) × (others : List CidParts) × (stored : Stored)
    × IsFileHeld b (root ∷ others) stored × IsRepo stored root c records

-- the repository of this commit is not stored whole, and the line says why
abbrev pub IsUnread : Stored → CidParts → List ℕ → Type 0
IsUnread stored root line =
    ((c : Commit) (records : List MstEntry) → ¬ IsRepo stored root c records)
    × ((e : RepoError) × RepoRefused stored root e × IsOfRepo e × (line ≡ repo_line root e))

-- the repository of the first root is not stored whole, and the line says why; or there is no root,
-- and the line says so
abbrev pub IsUnreadOf : Stored → List CidParts → List ℕ → Type 0
IsUnreadOf stored roots line =
    OfFirstRoot (λ root. IsUnread stored root line) (line ≡ no_root_line) roots

-- the bytes are not a CAR file of a whole repository, and the line says why
abbrev pub IsNoRepoFile : List ℕ → List ℕ → Type 0
IsNoRepoFile b line =
    ((roots : List CidParts) × (stored : Stored) × IsFileHeld b roots stored
    × IsUnreadOf stored roots line)
    ⊎ TellsFault (λ sections. ⊤) b line
