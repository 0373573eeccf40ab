use Rattle.std.proofs.Common.{inr, sym, ◌∙◌}
use Rattle.ipld_links.proofs.Keeping.{name_kept, other_kept}
use Rattle.ipld_links.proofs.held.HeldNames.contains.Goals as goal

pub returns-then-is_same : goal.returns-then-is_same
returns-then-is_same c = (λ _. name_kept c.args.self.now c.front_of.result c.in-Some.name.now c.args.cid.now c.front_of.ensures c.in-Some.ensures (c.is_same.ensures.0 c.if-is_same.true), λ _. c.if-is_same.true)

pub returns-else-is_same : goal.returns-else-is_same
returns-else-is_same c = (
  λ t. inr (c.contains.ensures.0 t),
  λ k. c.contains.ensures.1 (other_kept c.args.self.now c.front_of.result c.in-Some.name.now c.args.cid.now c.front_of.ensures c.in-Some.ensures (λ e. absurd (cc (sym (c.is_same.ensures.1 e) ∙ c.if-is_same.false))) k),
)
