use Rattle.std.proofs.Common.{rules, ◌≡◌, [], sym, ◌∙◌, subst}
use Rattle.std.specs.Io.KnownBytes.{Appends}
use Rattle.program_dagcar.specs.Speeches.{beside, SaysBytes}
use Rattle.program_dagcar.specs.Steps.{work_of, beside_of}
use Rattle.program_parts.proofs.Taking.{ends_as, ends_same}
use Rattle.program_dagcar.proofs.Saying.{Tells, none_told, rest_said, rest_silent}
use Rattle.program_dagcar.proofs.walk.say_sections.Goals as goal

pub returns-clause-said : goal.returns-clause-said
returns-clause-said g c = λ start roots old h k out b l.
    let speech = g.T.Teller.speech in
    let knows = g.T.Teller.knows in
    let work = work_of g.W.Write.contents in
    let telling = c.new-telling.result in
    let now = c.take_sections-ended.new.sink in
    let ends = c.take_sections-ended.ensures start roots h b l in
    let at = none_told speech knows work roots b old telling c.new-telling.ensures.well (subst (λ t. knows t roots []) (sym c.new-telling.ensures.teller) k) (subst (λ w. Appends old (g.W.Write.contents w) (speech.of_roots roots)) (sym c.new-telling.ensures.bytes) out) in
    let said = rest_said speech knows work roots b old telling now c.take_sections-ended.result c.say_rest.result (g.W.Write.contents c.say_rest.new.output) at (ends_as _ (Tells speech knows work) (λ s x r y q. q.0) roots b telling now c.take_sections-ended.result ends) c.say_rest.ensures in
    let output : now.output.ghost_name ≡ telling.output.ghost_name = ends_same _ (λ t. t.output.ghost_name) (λ s x r y q. q.0.0) roots b telling now c.take_sections-ended.result ends in
    let chain = output ∙ c.new-telling.ensures.reference in
    subst (λ x. SaysBytes speech b old c.say_rest.result (g.W.Write.contents x)) (search (rules, chain)) said

pub returns-clause-told : goal.returns-clause-told
returns-clause-told g c = λ start roots old h k out b l.
    let speech = beside g.T.Teller.tells in
    let knows = g.T.Teller.knows in
    let work = beside_of g.V.Write.contents in
    let telling = c.new-telling.result in
    let now = c.take_sections-ended.new.sink in
    let ends = c.take_sections-ended.ensures start roots h b l in
    let at = none_told speech knows work roots b old telling c.new-telling.ensures.well (subst (λ t. knows t roots []) (sym c.new-telling.ensures.teller) k) (subst (λ w. Appends old (g.V.Write.contents w) []) (sym c.new-telling.ensures.errors_bytes) out) in
    let silent = rest_silent g.T.Teller.speech g.T.Teller.tells knows _ _ c.take_sections-ended.result _ (work now).written c.say_rest.result _ c.say_rest.ensures in
    let said = rest_said speech knows work roots b old telling now c.take_sections-ended.result c.say_rest.result (work now).written at (ends_as _ (Tells speech knows work) (λ s x r y q. q.1) roots b telling now c.take_sections-ended.result ends) silent in
    let errors : now.errors.ghost_name ≡ telling.errors.ghost_name = ends_same _ (λ t. t.errors.ghost_name) (λ s x r y q. q.1.0) roots b telling now c.take_sections-ended.result ends in
    let chain = errors ∙ c.new-telling.ensures.errors_reference in
    subst (λ x. SaysBytes speech b old c.say_rest.result (g.V.Write.contents x)) (search (rules, chain)) said
