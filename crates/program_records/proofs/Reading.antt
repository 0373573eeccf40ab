-- Repositories that are read of files.
use Rattle.std.proofs.Common.{◌≡◌, inl, ℕ, List, ◌∷◌, subst, Result, Ok, Err, MatchResult, Vec}
use Rattle.std.specs.declared.alloc.Global.{Global}
use Rattle.ipld_tree.specs.Cid.{CidParts}
use Rattle.ipld_links.specs.Reaching.{Stored}
use Rattle.atproto_mst.specs.Entries.{entries}
use Rattle.atproto_mst.specs.Keys.{Rise}
use Rattle.atproto_mst.specs.Repos.{IsRepo}
use Rattle.types_repository.specs.declared.repository.Commit.{Commit}
use Rattle.atproto_mst.specs.declared.entries.MstEntry.{MstEntry}
use Rattle.atproto_mst.specs.declared.repo.Repo.{Repo}
use Rattle.program_records.specs.Repositories.{IsFileHeld, IsUnreadOf, IsRepoFile, IsNoRepoFile}

-- the keys of a repository rise
pub records_rise : (b : List ℕ) (c : Commit) (records : List MstEntry) → IsRepoFile b c records → Rise (entries records)
records_rise b c records h = h.4.1.valid.rise

-- what is read from the stored blocks of a file is read from the file
pub read_held : (b : List ℕ) (roots : List CidParts) (stored : Stored) (r : Result Repo (Vec ℕ Global)) → IsFileHeld b roots stored
    → MatchResult r (λ repo. (root : CidParts) × (others : List CidParts) × (roots ≡ root ∷ others) × IsRepo stored root repo.commit repo.records.items) (λ line. IsUnreadOf stored roots line.items)
    → MatchResult r (λ repo. IsRepoFile b repo.commit repo.records.items) (λ line. IsNoRepoFile b line.items)
read_held b roots stored (Ok repo) f h = (h.0, h.1, stored, subst (λ rs. IsFileHeld b rs stored) h.2 f, h.3)
read_held b roots stored (Err line) f h = inl (roots, stored, f, h)
