use Rattle.std.proofs.Common.{rules, ap, ◌∙◌}
use Rattle.dagcbor_read.proofs.Wholes.{first_told}
use Rattle.dagcbor_read.proofs.Handing.{begins_unlent}
use Rattle.dagcbor_read.proofs.source.from_reader_once.Goals as goal

pub returns-in-Some : goal.returns-in-Some
returns-in-Some g c =
    let start = c.from_reader-de.ensures in
    let told = first_told g.T.Shown.shape _ g.T.Shown.meaning (g.R.Read.remaining c.args.reader.now) _ _ _ c.deserialize-result.result (ap (λ p. p.failed) start) (ap (λ p. p.input.left) start ∙ ap (λ r. r.left) c.new.ensures)
    (ap (λ p. p.input.steps) start ∙ ap (λ r. r.steps) c.new.ensures) (search rules) (ap (λ p. p.input.lends) start) c.deserialize-result.ensures.value (λ same b l. search rules) in
    record { value = told.0; refused = told.1; never = told.2; memory = told.3; answers = (_, _, begins_unlent start c.new.ensures, c.deserialize-result.ensures.answers) }

pub returns-in_default : goal.returns-in_default
returns-in_default g c =
    let start = c.from_reader-de.ensures in
    let told = first_told g.T.Shown.shape _ g.T.Shown.meaning (g.R.Read.remaining c.args.reader.now) _ _ _ c.deserialize-result.result (ap (λ p. p.failed) start) (ap (λ p. p.input.left) start ∙ ap (λ r. r.left) c.new.ensures)
    (ap (λ p. p.input.steps) start ∙ ap (λ r. r.steps) c.new.ensures) (search rules) (ap (λ p. p.input.lends) start) c.deserialize-result.ensures.value (λ same b l. search rules) in
    record { value = told.0; refused = told.1; never = told.2; memory = told.3; answers = (_, _, begins_unlent start c.new.ensures, c.deserialize-result.ensures.answers) }
