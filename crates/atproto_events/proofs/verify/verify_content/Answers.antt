use Rattle.std.proofs.Common.{inr, subst, ap, ◌∙◌, map}
use Rattle.std.specs.List.{AllByRecursion}
use Rattle.std.proofs.lemmas.Result.{err_from_is_err_and}
use Rattle.ipld_links.specs.Reaching.{stored_in}
use Rattle.atproto_mst.specs.Changes.{changes}
use Rattle.atproto_events.specs.Doing.{LeadsFrom}
use Rattle.atproto_events.specs.Operations.{HasForm, change_of_op}
use Rattle.atproto_events.specs.Verifying.{ComesAfter, LeadRefused}
use Rattle.atproto_events.proofs.verify.verify_content.Goals as goal

pub returns-in_err-check_changes-clause-refused : goal.returns-in_err-check_changes-clause-refused
returns-in_err-check_changes-clause-refused c =
    let p = err_from_is_err_and c.from_residual-in_err-check_changes.result c.from_residual-in_err-check_changes.ensures.1 in
    let stored = stored_in c.in_ok-blocks.blocks in
    let begins = rw (c.root_said.ensures, c.root_known.ensures) at c.in_ok-before.ensures in
    let same = ap changes c.deref-2.ensures.value ∙ c.in_ok-changes.ensures.1 ∙ ap (map change_of_op) c.deref.ensures.value in
    let lead = subst (λ cs. LeadRefused stored c.in_ok-before.before cs c.in_ok-commit.commit.data c.in_err-check_changes.field-0.0) same c.in_err-check_changes.ensures in
    rw (p.1, p.2) (inr (inr (inr (inr (stored, c.in_ok-blocks.ensures, inr (c.in_ok-commit.commit, c.in_ok-before.before, c.in_ok-commit.ensures, begins, lead))))))

pub returns-in-Ok-clause-verified : goal.returns-in-Ok-clause-verified
returns-in-Ok-clause-verified c =
    let stored = stored_in c.in_ok-blocks.blocks in
    record {
      limits = c.requires;
      after = subst (λ r. ComesAfter r c.args.known.now) c.as_str.ensures.value (rw c.if-not-comes_after.false at c.comes_after.ensures);
      begins = rw (c.root_said.ensures, c.root_known.ensures) at c.in_ok-before.ensures;
      forms = subst (AllByRecursion HasForm) c.deref.ensures.value c.in_ok-changes.ensures.0;
      operations = c.in_ok-changes.ensures.1 ∙ ap (map change_of_op) c.deref.ensures.value;
      stored = stored;
      file = c.in_ok-blocks.ensures;
      commit = c.in_ok-commit.ensures;
      leads = subst (λ cs. LeadsFrom stored c.in_ok-before.before cs c.in_ok-commit.commit.data) (ap changes c.deref-2.ensures.value) c.in_ok-check_changes.ensures;
      signed = c.in-Ok.ensures;
    }
