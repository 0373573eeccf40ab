use Rattle.std.proofs.lemmas.Result.{err_from_is_err_and}
use Rattle.ipld_links.specs.Reaching.{stored_in}
use Rattle.atproto_mst.specs.Entries.{entries}
use Rattle.atproto_mst.proofs.StoredCommits.{commit_unread, same_root}
use Rattle.atproto_mst.proofs.repo.read_repo.Goals as goal

pub returns-in_err-commit-clause-refused : goal.returns-in_err-commit-clause-refused
returns-in_err-commit-clause-refused c =
    let p = err_from_is_err_and c.from_residual.result c.from_residual.ensures.1 in
    rw (p.1, p.2) (commit_unread (stored_in c.args.blocks.now) c.args.root.now c.in_err-commit.field-0.0 c.in_err-commit.ensures.refused)

pub returns-in_err-commit-clause-whole : goal.returns-in_err-commit-clause-whole
returns-in_err-commit-clause-whole c k records h =
    let p = err_from_is_err_and c.from_residual.result c.from_residual.ensures.1 in
    rw (p.1, p.2) (c.in_err-commit.ensures.whole k h.0)

pub returns-clause-refused : goal.returns-clause-refused
returns-clause-refused c = (c.in_default.not-OutOfMemory, (c.in_ok-commit.commit, c.in_ok-commit.ensures.read, c.in-Err.ensures.refused))

pub returns-clause-whole : goal.returns-clause-whole
returns-clause-whole c k records h = absurd (c.in_default.not-OutOfMemory (c.in-Err.ensures.whole (entries records)
    (same_root (stored_in c.args.blocks.now) c.args.root.now c.in_ok-commit.commit k (entries records) c.version-version.ensures.valid c.in_ok-commit.ensures.read h.0 h.1)))
