use Rattle.std.proofs.Common.{rules, ◌≡◌, sym, ◌∙◌, subst}
use Rattle.std.specs.Io.KnownBytes.{Appends}
use Rattle.dagcbor_items.specs.Walks.{forms}
use Rattle.files_car.specs.Car.{header_bytes}
use Rattle.program_sections.specs.Sending.{SaysSent}
use Rattle.program_sections.specs.Merging.{merged_roots, IsMergedFront, IsMergedOf}
use Rattle.program_sections.specs.MergeSteps.{merging_work}
use Rattle.program_sections.proofs.Merging.{none_yet, sections_told}
use Rattle.program_sections.proofs.merge.merge_sections.Goals as goal

pub returns : goal.returns
returns g c = λ bs given roots first following out.
    let work = merging_work g.W.Write.contents in
    let merging = c.new-merging.result in
    let now = c.merge_files-told.new.merging in
    let begun = none_yet (merged_roots given roots) first (work merging) c.new-merging.ensures.none (subst (λ w. Appends first (g.W.Write.contents w) (header_bytes (forms (merged_roots given roots)))) (sym c.new-merging.ensures.bytes) out) in
    let merged = c.merge_files-told.ensures in
    let said = sections_told _ bs given roots first (g.V.Write.contents c.args.errors.now) (work merging) (work now) c.merge_files-told.result c.tell_end.result (g.V.Write.contents c.tell_end.new.errors) following begun merged c.tell_end.ensures in
    let output : now.output.ghost_name ≡ merging.output.ghost_name = (merged bs roots (merged_roots given roots) first following begun).0 in
    let chain = output ∙ c.new-merging.ensures.reference in
    subst (λ x. SaysSent (IsMergedFront given bs) (IsMergedOf given bs) first (g.V.Write.contents c.args.errors.now) c.tell_end.result (g.W.Write.contents x) (g.V.Write.contents c.tell_end.new.errors)) (search (rules, chain)) said
