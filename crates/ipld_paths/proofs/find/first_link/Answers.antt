use Rattle.std.proofs.Common.{ap, sym, subst, ◌∙◌}
use Rattle.ipld_paths.proofs.Ends.{PullsLink, link_told}
use Rattle.ipld_paths.proofs.find.first_link.Goals as goal

pub returns-in_err-cid : goal.returns-in_err-cid
returns-in_err-cid c =
    let pulled = link_told c.args.bytes.now _ _ c.pull_link.result (ap (λ r. r.left) c.new.ensures) c.pull_link.ensures.link in
    rw c.from_residual.ensures (subst (PullsLink c.args.bytes.now) (sym c.ok.ensures.value ∙ c.in_err-cid.was) pulled)

pub returns : goal.returns
returns c =
    let pulled = link_told c.args.bytes.now _ _ c.pull_link.result (ap (λ r. r.left) c.new.ensures) c.pull_link.ensures.link in
    λ t k. (c.version-version.ensures.valid, subst (PullsLink c.args.bytes.now) (sym c.ok.ensures.value ∙ c.in_ok-cid.was) pulled t k)
