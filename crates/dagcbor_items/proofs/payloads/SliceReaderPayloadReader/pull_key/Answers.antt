use Rattle.dagcbor_heads.proofs.Refusing.{as_refusal}
use Rattle.std.specs.declared.convert.Infallible.{Infallible}
use Rattle.dagcbor_items.proofs.StringItems.{text_taken}
use Rattle.dagcbor_items.proofs.Keys.{key_text_refused, unordered_refused}
use Rattle.dagcbor_items.proofs.payloads.SliceReaderPayloadReader.pull_key.Goals as goal

pub returns-in_err-key-clause-key : goal.returns-in_err-key-clause-key
returns-in_err-key-clause-key c = as_refusal _ _ _ _ c.from_residual.ensures.1 (key_text_refused _ _ _ _ c.in_err-key.ensures.text)

pub returns-then-not-lent_follows-clause-key : goal.returns-then-not-lent_follows-clause-key
returns-then-not-lent_follows-clause-key c =
    unordered_refused Infallible _ _ (text_taken _ c.in_ok-key.ensures.text) (λ f. let yes = c.lent_follows.ensures.1 f in let no_more = c.if-not-lent_follows.true in absurd (cc (yes, no_more)))
