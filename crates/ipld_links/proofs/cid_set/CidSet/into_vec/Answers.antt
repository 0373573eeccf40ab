use Rattle.std.proofs.Common.{refl, sym, ◌∙◌}
use Rattle.ipld_links.specs.Sets.{members}
use Rattle.ipld_links.proofs.Members.{none_of, none_in_order, some_of}
use Rattle.ipld_links.proofs.cid_set.CidSet.into_vec.Goals as goal

pub returns-then-is_empty-clause-sorted : goal.returns-then-is_empty-clause-sorted
returns-then-is_empty-clause-sorted c = none_in_order c.new.result.items c.new.ensures.items

pub returns-then-is_empty-clause-all : goal.returns-then-is_empty-clause-all
returns-then-is_empty-clause-all c = c.new.ensures.items ∙ sym (none_of (members c.args.self) (c.if-is_empty.ensures.0 refl))

pub returns-clause-memory : goal.returns-clause-memory
returns-clause-memory c = some_of (members c.args.self) _ (λ e. cc (c.if-is_empty.ensures.1 e))
