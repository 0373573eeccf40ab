use Rattle.std.proofs.Common.{rules, ◌≡◌, ap, ◌∙◌, subst}
use Rattle.dagcbor_heads.specs.Inputs.{input_reading}
use Rattle.dagcbor_items.specs.Walks.{forms}
use Rattle.program_parts.proofs.Taking.{ends_same}
use Rattle.program_sections.specs.Parts.{roots_of_parts}
use Rattle.program_sections.specs.Splitting.{making}
use Rattle.program_sections.specs.SplitSteps.{splitting_work, SplitsEnded, made}
use Rattle.program_sections.proofs.Filtering.{begun_front}
use Rattle.program_sections.proofs.Dividing.{none_yet}
use Rattle.program_sections.proofs.Ending.{all_ended, first_stopped}
use Rattle.program_sections.proofs.split.split_sections.Goals as goal

pub returns-in-Err : goal.returns-in-Err
returns-in-Err g c = λ start roots b h l is.
    first_stopped c.args.plan.now roots b (g.N.NewFiles.whole c.args.files.now) (g.N.NewFiles.whole c.begin_part.new.files) (g.N.NewFiles.has c.begin_part.new.files) c.in-Err.fault
    (begun_front (forms roots) c.args.extent start (input_reading g.R.Read.reading c.args.input.now) b h l) c.in-Err.ensures.whole c.in-Err.ensures.begun

pub returns : goal.returns
returns g c = λ start roots b h l is.
    let whole = g.N.NewFiles.whole in
    let has = g.N.NewFiles.has in
    let contents = g.N.File.Write.contents in
    let work = splitting_work whole has contents in
    let plan = c.args.plan.now in
    let all = forms (roots_of_parts plan.asked.now.roots.items roots) in
    let first = whole c.args.files.now in
    let splitting = c.new-splitting.result in
    let now = c.take_sections-ended.new.sink in
    let same = c.new-splitting.ensures.part in
    let part = c.in-Ok.ensures.begun in
    let begun = none_yet plan all first is (work splitting) c.new-splitting.ensures.plan (ap (λ p. p.number) same ∙ part.number_is) (ap (λ p. p.room) same ∙ part.room) (ap (λ p. p.holds) same ∙ part.none) (ap whole c.new-splitting.ensures.files ∙ c.in-Ok.ensures.whole) (λ before e. ap (λ p. contents p.file) same ∙ part.bytes before e) in
    let ends = c.take_sections-ended.ensures start (forms roots) h b l in
    let after = c.end_parts.new.files in
    let said = all_ended _ work (λ s x r y q. q) plan roots b first is splitting now begun c.take_sections-ended.result c.end_parts.result (made (whole after) (has after)) ends c.end_parts.ensures in
    let reference : now.files.ghost_name ≡ splitting.files.ghost_name = ends_same _ (λ t. t.files.ghost_name) (λ s x r y q. q.0) (forms roots) b splitting now c.take_sections-ended.result ends in
    let chain = reference ∙ c.new-splitting.ensures.reference in
    subst (λ x. SplitsEnded plan.asked.now b c.end_parts.result (making first (whole x) (has x))) (search (rules, chain)) said
