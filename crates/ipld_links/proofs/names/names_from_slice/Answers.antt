use Rattle.std.specs.declared.convert.Infallible.{Infallible}
use Rattle.std.proofs.Common.{length, ◌==◌, ◌∙◌, ap, sym, subst, eqb-true}
use Rattle.std.proofs.lemmas.List.{nil_from_length}
use Rattle.std.specs.List.Sorted.{IsStrictlySortedBy}
use Rattle.ipld_tree.specs.Cid.{cid_cmp}
use Rattle.ipld_links.proofs.Within.{first_names, no_forms}
use Rattle.dagcbor_decode.proofs.FirstLinks.{some_links}
use Rattle.dagcbor_items.specs.Walks.{forms}
use Rattle.ipld_links.proofs.names.names_from_slice.Goals as goal

pub returns-in-Ok-clause-names : goal.returns-in-Ok-clause-names
returns-in-Ok-clause-names c = first_names c.args.bytes.now c.add_all.result c.in_ok-links.links.items c.in-Ok.list.items c.new.result c.new-names.result c.add_all.new.self c.new.ensures c.new-names.ensures c.in_ok-links.ensures.links c.if-is_err.ensures.value (rw c.deref.ensures.value at c.add_all.ensures.added) c.in-Ok.ensures.all

pub returns-then-is_err-clause-refused : goal.returns-then-is_err-clause-refused
returns-then-is_err-clause-refused c = some_links Infallible c.args.bytes.now (forms c.in_ok-links.links.items) c.in_ok-links.ensures.links (λ e. cc (c.if-is_empty.ensures ∙ ap (λ n. n == 0) (c.in_ok-links.links.ok.0 ∙ ap length (no_forms c.in_ok-links.links.items e))))

pub returns-clause-refused : goal.returns-clause-refused
returns-clause-refused c = some_links Infallible c.args.bytes.now (forms c.in_ok-links.links.items) c.in_ok-links.ensures.links (λ e. cc (c.if-is_empty.ensures ∙ ap (λ n. n == 0) (c.in_ok-links.links.ok.0 ∙ ap length (no_forms c.in_ok-links.links.items e))))

pub returns-then-is_empty-clause-order : goal.returns-then-is_empty-clause-order
unfolding IsStrictlySortedBy
returns-then-is_empty-clause-order c = subst (IsStrictlySortedBy cid_cmp) (sym (nil_from_length c.in_ok-links.links.items (sym c.in_ok-links.links.ok.0 ∙ eqb-true c.in_ok-links.links.len 0 (sym c.if-is_empty.ensures)))) tt
