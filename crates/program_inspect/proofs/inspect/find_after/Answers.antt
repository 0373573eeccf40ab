use Rattle.std.proofs.Common.{subst}
use Rattle.dagcbor_items.specs.Walks.{forms}
use Rattle.program_inspect.proofs.Learning.{EndsKnown, ends_known, facts_known}
use Rattle.program_inspect.proofs.inspect.find_after.Goals as goal

pub returns-in_ok-facts-in-Whole : goal.returns-in_ok-facts-in-Whole
returns-in_ok-facts-in-Whole g c = λ start b h l.
    facts_known c.args.roots.now b c.args.front.now c.args.index c.take_sections.new.sink c.in_ok-facts-in-Whole.facts
    (subst (λ e. EndsKnown c.args.roots.now b e c.take_sections.new.sink) c.in-Whole.is (ends_known c.args.roots.now b c.in_ok-it.it c.take_sections.new.sink c.in_ok-ended.ended c.in_ok-it.ensures (c.in_ok-ended.ensures start (forms c.args.roots.now) h b l)))
    c.in_ok-facts-in-Whole.ensures

pub returns-in-Fault : goal.returns-in-Fault
returns-in-Fault g c = λ start b h l.
    subst (λ e. EndsKnown c.args.roots.now b e c.take_sections.new.sink) c.in-Fault.is (ends_known c.args.roots.now b c.in_ok-it.it c.take_sections.new.sink c.in_ok-ended.ended c.in_ok-it.ensures (c.in_ok-ended.ensures start (forms c.args.roots.now) h b l))
