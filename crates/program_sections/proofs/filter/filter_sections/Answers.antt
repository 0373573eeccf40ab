use Rattle.std.proofs.Common.{rules, ◌≡◌, sym, ◌∙◌, subst}
use Rattle.std.specs.Io.KnownBytes.{Appends}
use Rattle.dagcbor_items.specs.Walks.{forms}
use Rattle.files_car.specs.Car.{header_bytes}
use Rattle.program_parts.proofs.Taking.{ends_same}
use Rattle.program_sections.specs.Kept.{roots_of}
use Rattle.program_sections.specs.Sending.{SaysSent}
use Rattle.program_sections.specs.Filtering.{IsFiltered, IsFilteredFront}
use Rattle.program_sections.specs.Steps.{filtering_work}
use Rattle.program_sections.proofs.Filtering.{none_yet, all_told}
use Rattle.program_sections.proofs.filter.filter_sections.Goals as goal

pub returns : goal.returns
returns g c = λ start roots first b h l out.
    let f = c.args.filter.now in
    let work = filtering_work g.W.Write.contents in
    let filtering = c.new-filtering.result in
    let now = c.take_sections-ended.new.sink in
    let ends = c.take_sections-ended.ensures start (forms roots) h b l in
    let begun = none_yet f roots first (work filtering) c.new-filtering.ensures.kept c.new-filtering.ensures.found (subst (λ w. Appends first (g.W.Write.contents w) (header_bytes (forms (roots_of f.roots.items f.kept roots)))) (sym c.new-filtering.ensures.bytes) out) in
    let same = ends_same _ (λ t. t.kept.now) (λ s x r y q. q.1) (forms roots) b filtering now c.take_sections-ended.result ends ∙ c.new-filtering.ensures.kept in
    let said = all_told _ work (λ s x r y q. q) f roots b first (g.V.Write.contents c.args.errors.now) filtering now begun c.take_sections-ended.result _ c.tell_rest.result (g.V.Write.contents c.tell_rest.new.errors) same ends c.tell_rest.ensures in
    let output : now.output.ghost_name ≡ filtering.output.ghost_name = ends_same _ (λ t. t.output.ghost_name) (λ s x r y q. q.0) (forms roots) b filtering now c.take_sections-ended.result ends in
    let chain = output ∙ c.new-filtering.ensures.reference in
    subst (λ x. SaysSent (IsFilteredFront f b) (IsFiltered f b) first (g.V.Write.contents c.args.errors.now) c.tell_rest.result (g.W.Write.contents x) (g.V.Write.contents c.tell_rest.new.errors)) (search (rules, chain)) said
