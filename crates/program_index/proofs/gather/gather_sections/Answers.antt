use Rattle.std.specs.Bool.{⊤}
use Rattle.std.proofs.Common.{subst, refl}
use Rattle.dagcbor_items.specs.Walks.{forms}
use Rattle.program_parts.specs.Taking.{EndsAt}
use Rattle.program_parts.proofs.Keeping.{fault_told}
use Rattle.program_index.specs.Steps.{GathersNext}
use Rattle.program_index.proofs.Gathering.{whole_gathered}
use Rattle.program_index.specs.declared.gather.Gathering.{Gathering}
use Rattle.program_index.proofs.gather.gather_sections.Goals as goal

pub returns-in-Whole : goal.returns-in-Whole
returns-in-Whole g c = λ start h b l.
    let old : Gathering = record { entries = c.new.result; place = c.in_ok-header_length.field-0 } in
    whole_gathered b (forms c.args.roots.now) old c.take_sections.new.sink _
    (subst (λ e. EndsAt GathersNext (forms c.args.roots.now) b old e c.take_sections.new.sink) c.in-Whole.is (c.in_ok-take_sections.ensures start (forms c.args.roots.now) h b l))
    c.new.ensures.items c.in_ok-header_length.ensures c.sort_unstable.ensures.permutation c.sort_unstable.ensures.sorted refl

pub returns-in-Fault : goal.returns-in-Fault
returns-in-Fault g c = λ start h b l.
    let old : Gathering = record { entries = c.new.result; place = c.in_ok-header_length.field-0 } in
    let k = subst (λ e. EndsAt GathersNext (forms c.args.roots.now) b old e c.take_sections.new.sink) c.in-Fault.is (c.in_ok-take_sections.ensures start (forms c.args.roots.now) h b l) in
    fault_told GathersNext (λ ss. ⊤) b c.in-Fault.line.items (forms c.args.roots.now) old c.take_sections.new.sink k.0 k.1 tt k.2
