-- Why a block is not a commit.
use Rattle.std.specs.Prelude.{◌≢◌, ℕ, List, ⊤}
use Rattle.dagcbor_core.specs.Steps.{default_steps}
use Rattle.dagcbor_core.specs.declared.error.DecodeError.TheVariants as unread
use Rattle.dagcbor_read.specs.Whole.{HoldsNoValue, OfWhole, IsForAfter}
use Rattle.types_repository.specs.Repository.{commit_shape}
use Rattle.atproto_mst.specs.declared.repo_error.RepoError.{RepoError}
use Rattle.atproto_mst.specs.declared.repo_error.RepoError.TheVariants as error

-- the block has no commit as a whole; if it begins with one, the cause is the bytes after it
abbrev pub UnreadCommit : List ℕ → RepoError → Type 0
UnreadCommit b error.OutOfMemory = ⊤
UnreadCommit b (error.NoCommit e) = HoldsNoValue commit_shape default_steps b
    × (e ≢ unread.OutOfMemory) × OfWhole e × IsForAfter commit_shape default_steps b e
UnreadCommit b _ = ⊥
