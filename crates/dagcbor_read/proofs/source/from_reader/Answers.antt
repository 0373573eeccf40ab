use Rattle.std.proofs.Common.{rules, refl, ap, sym, ◌∙◌, ◌≡◌, false}
use Rattle.dagcbor_core.specs.Steps.{default_steps}
use Rattle.dagcbor_read.proofs.Wholes.{not_answered, on_refusal, value_refused, value_end_refused, value_answered}
use Rattle.dagcbor_read.proofs.Handing.{begins_unlent, hands_refusal, hands_no_end, hands_value, no_end}
use Rattle.dagcbor_read.proofs.source.from_reader.Goals as goal

-- no value was read
pub returns-in_err-value : goal.returns-in_err-value
returns-in_err-value g c =
    let start = c.from_reader-de.ensures in
    let source = c.new.ensures in
    let owned : g.T.Shown.shape.wants_loan ≡ false = search rules in
    let told = value_refused g.T.Shown.shape default_steps (g.R.Read.remaining c.args.reader) false _ _ _ _ (ap (λ p. p.input.left) start ∙ ap (λ r. r.left) source) (ap (λ p. p.input.steps) start ∙ ap (λ r. r.steps) source) (ap (λ p. p.input.lends) start)
    (λ b n. let differ = sym owned ∙ b in cc) (c.in_err-value.ensures.value (ap (λ p. p.failed) start)) in
    let handed = c.from_residual.ensures.1 in
    record { value = not_answered _ _ _ handed; refused = on_refusal _ _ _ handed told.0; following = on_refusal _ _ _ handed told.2; memory = on_refusal _ _ _ handed told.3; never = on_refusal _ _ _ handed told.1; answers = hands_refusal g.T.Deserialize.answers _ _ _ _ _ _ _ handed (begins_unlent start source) c.in_err-value.ensures.answers }

-- it was read, and then no end was found
pub returns-in_err-end : goal.returns-in_err-end
returns-in_err-end g c =
    let start = c.from_reader-de.ensures in
    let source = c.new.ensures in
    let told = value_end_refused g.T.Shown.shape default_steps (g.R.Read.remaining c.args.reader) false _ _ _ (g.T.Shown.meaning c.in_ok-value.value) _ (ap (λ p. p.input.left) start ∙ ap (λ r. r.left) source)
    (c.in_ok-value.ensures.value (ap (λ p. p.failed) start)) c.in_err-end.ensures.end in
    let handed = c.from_residual-in_err-end.ensures.1 in
    record { value = not_answered _ _ _ handed; refused = on_refusal _ _ _ handed told.0; following = on_refusal _ _ _ handed told.2; memory = on_refusal _ _ _ handed told.3; never = on_refusal _ _ _ handed told.1; answers = hands_no_end g.T.Deserialize.answers _ _ _ _ _ _ _ _ handed (begins_unlent start source) (no_end _ _ _ (c.in_ok-value.ensures.value (ap (λ p. p.failed) start)).0 c.in_err-end.ensures.end) c.in_ok-value.ensures.answers }

pub returns-clause-value : goal.returns-clause-value
returns-clause-value g c =
    let start = c.from_reader-de.ensures in
    let source = c.new.ensures in
    value_answered g.T.Shown.shape _ _ (g.R.Read.remaining c.args.reader) _ _ _ (g.T.Shown.meaning c.in_ok-value.value) (ap (λ p. p.input.left) start ∙ ap (λ r. r.left) source) (ap (λ p. p.input.steps) start ∙ ap (λ r. r.steps) source) (c.in_ok-value.ensures.value (ap (λ p. p.failed) start)) c.in_ok-end.ensures.end

pub returns-clause-answers : goal.returns-clause-answers
returns-clause-answers g c = hands_value g.T.Deserialize.answers _ _ _ _ _ _ _ refl (begins_unlent c.from_reader-de.ensures c.new.ensures) c.in_ok-value.ensures.answers
