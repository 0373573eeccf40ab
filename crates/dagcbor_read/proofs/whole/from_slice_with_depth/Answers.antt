use Rattle.std.proofs.Common.{ap, sym, ◌∙◌, Some, true}
use Rattle.dagcbor_read.proofs.Wholes.{not_answered, on_refusal, slice_excused, value_refused, value_end_refused, value_answered, the_refusal, the_answer, is_the_refusal, on_the_answer, no_refusal}
use Rattle.dagcbor_read.proofs.Handing.{begins, hands_refusal, hands_no_end, hands_value, no_end}
use Rattle.dagcbor_read.proofs.whole.from_slice_with_depth.Goals as goal

-- no value was read
pub returns-then-is_err : goal.returns-then-is_err
returns-then-is_err g c =
    let start = c.from_slice_reader-de.ensures in
    let source = c.with_depth.ensures in
    let e = the_refusal _ c.if-is_err.ensures.value in
    let told = value_refused g.T.Shown.shape c.args.steps (Some c.args.bytes.now) true _ _ _ _ (ap (λ p. p.input.left) start ∙ ap (λ r. r.left) source) (ap (λ p. p.input.steps) start ∙ ap (λ r. r.steps) source) (ap (λ p. p.input.lends) start ∙ ap (λ r. r.lends) source)
    (λ b n. let differ = sym (ap (λ p. p.input.lends) start ∙ ap (λ r. r.lends) source) ∙ n in cc) (rw e.1 at c.deserialize-result.ensures.value (ap (λ p. p.failed) start)) in
    let handed = is_the_refusal _ e.0 e.1 in
    record { value = not_answered _ _ _ handed; refused = on_refusal _ _ _ handed (slice_excused _ told.0); following = on_refusal _ _ _ handed told.2; memory = on_refusal _ _ _ handed told.3; lies = not_answered _ _ _ handed; never = on_refusal _ _ _ handed told.1; answers = hands_refusal g.T.Deserialize.answers _ _ _ _ _ _ e.0 handed (begins start source) (rw e.1 at c.deserialize-result.ensures.answers) }

-- it was read, and then no end was found
pub returns-in_err-end : goal.returns-in_err-end
returns-in_err-end g c =
    let start = c.from_slice_reader-de.ensures in
    let source = c.with_depth.ensures in
    let v = the_answer _ c.if-is_err.ensures.value in
    let told = value_end_refused g.T.Shown.shape c.args.steps (Some c.args.bytes.now) true _ _ _ (g.T.Shown.meaning v.0) _ (ap (λ p. p.input.left) start ∙ ap (λ r. r.left) source)
    (rw v.1 at c.deserialize-result.ensures.value (ap (λ p. p.failed) start)) c.in_err-end.ensures.end in
    let handed = c.from_residual.ensures.1 in
    record { value = not_answered _ _ _ handed; refused = on_refusal _ _ _ handed (slice_excused _ told.0); following = on_refusal _ _ _ handed told.2; memory = on_refusal _ _ _ handed told.3; lies = not_answered _ _ _ handed; never = on_refusal _ _ _ handed told.1; answers = hands_no_end g.T.Deserialize.answers _ _ _ _ _ _ v.0 _ handed (begins start source) (no_end _ _ _ (rw v.1 at c.deserialize-result.ensures.value (ap (λ p. p.failed) start)).0 c.in_err-end.ensures.end) (rw v.1 at c.deserialize-result.ensures.answers) }

pub returns-clause-value : goal.returns-clause-value
returns-clause-value g c =
    let start = c.from_slice_reader-de.ensures in
    let source = c.with_depth.ensures in
    let v = the_answer _ c.if-is_err.ensures.value in
    on_the_answer _ _ v.0 v.1
    (value_answered g.T.Shown.shape _ _ (Some c.args.bytes.now) _ _ _ (g.T.Shown.meaning v.0) (ap (λ p. p.input.left) start ∙ ap (λ r. r.left) source) (ap (λ p. p.input.steps) start ∙ ap (λ r. r.steps) source) (rw v.1 at c.deserialize-result.ensures.value (ap (λ p. p.failed) start)) c.in_ok-end.ensures.end)

pub returns-clause-refused : goal.returns-clause-refused
returns-clause-refused g c = no_refusal _ _ c.if-is_err.ensures.value

pub returns-clause-answers : goal.returns-clause-answers
returns-clause-answers g c =
    let v = the_answer _ c.if-is_err.ensures.value in
    hands_value g.T.Deserialize.answers _ _ _ _ _ _ v.0 v.1 (begins c.from_slice_reader-de.ensures c.with_depth.ensures) c.deserialize-result.ensures.answers
