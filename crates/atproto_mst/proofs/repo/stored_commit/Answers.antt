use Rattle.std.proofs.Common.{sym, ◌∙◌, refl}
use Rattle.std.proofs.lemmas.Result.{err_from_is_err_and}
use Rattle.ipld_links.specs.Reaching.{stored_in}
use Rattle.atproto_mst.specs.declared.repo_error.RepoError.TheVariants.{OtherBytes, OtherVersion}
use Rattle.atproto_mst.proofs.Comparing.{same_name}
use Rattle.atproto_mst.proofs.Naming.{other_name}
use Rattle.atproto_mst.proofs.StoredCommits.{unread_refused, only_memory, whole_commit}
use Rattle.atproto_mst.proofs.repo.stored_commit.Goals as goal

pub returns-clause-read : goal.returns-clause-read
returns-clause-read c = (
  c.if-commit-ne-VERSION.false,
  (
    c.in-Some.block.now,
    (sym c.in-Some.ensures, sym (same_name c.name_of_block.result c.args.name.now c.ne.result c.if-ne.false c.ne.ensures) ∙ c.name_of_block.ensures),
    c.in_ok-commit.ensures,
  ),
)

pub returns-then-ne-clause-refused : goal.returns-then-ne-clause-refused
returns-then-ne-clause-refused c = (
  c.in-Some.block.now,
  sym c.in-Some.ensures,
  λ named. other_name c.name_of_block.result c.args.name.now c.ne.result c.if-ne.true c.ne.ensures (c.name_of_block.ensures ∙ sym named),
)

pub returns-then-ne-clause-whole : goal.returns-then-ne-clause-whole
returns-then-ne-clause-whole c k s = only_memory (stored_in c.args.blocks.now) c.args.name.now k OtherBytes s (
  c.in-Some.block.now,
  sym c.in-Some.ensures,
  λ named. other_name c.name_of_block.result c.args.name.now c.ne.result c.if-ne.true c.ne.ensures (c.name_of_block.ensures ∙ sym named),
)

pub returns-in_err-commit-clause-refused : goal.returns-in_err-commit-clause-refused
returns-in_err-commit-clause-refused c =
    let p = err_from_is_err_and c.from_residual.result c.from_residual.ensures.1 in
    rw (p.1, p.2) (unread_refused (stored_in c.args.blocks.now) c.args.name.now c.in-Some.block.now c.in_err-commit.field-0.0
    (sym c.in-Some.ensures, sym (same_name c.name_of_block.result c.args.name.now c.ne.result c.if-ne.false c.ne.ensures) ∙ c.name_of_block.ensures) c.in_err-commit.ensures)

pub returns-in_err-commit-clause-whole : goal.returns-in_err-commit-clause-whole
returns-in_err-commit-clause-whole c = whole_commit (stored_in c.args.blocks.now) c.args.name.now c.from_residual.result (returns-in_err-commit-clause-refused c)

pub returns-then-commit-ne-VERSION-clause-refused : goal.returns-then-commit-ne-VERSION-clause-refused
returns-then-commit-ne-VERSION-clause-refused c = (
  c.in-Some.block.now,
  c.in_ok-commit.commit,
  (sym c.in-Some.ensures, sym (same_name c.name_of_block.result c.args.name.now c.ne.result c.if-ne.false c.ne.ensures) ∙ c.name_of_block.ensures),
  c.in_ok-commit.ensures,
  refl,
  c.if-commit-ne-VERSION.true,
)

pub returns-then-commit-ne-VERSION-clause-whole : goal.returns-then-commit-ne-VERSION-clause-whole
returns-then-commit-ne-VERSION-clause-whole c k s = only_memory (stored_in c.args.blocks.now) c.args.name.now k (OtherVersion c.in_ok-commit.commit.version) s
    (returns-then-commit-ne-VERSION-clause-refused c)
