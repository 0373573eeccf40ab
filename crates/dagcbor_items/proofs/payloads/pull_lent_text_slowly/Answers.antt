use Rattle.std.proofs.Common.{sym, ◌∙◌, ◌≡◌, false}
use Rattle.dagcbor_heads.proofs.Refusing.{as_refusal}
use Rattle.dagcbor_items.specs.ReadCauses.{TextCause}
use Rattle.dagcbor_items.proofs.StringReads.{text_string_refused, string_kind_refused, peeked_read}
use Rattle.dagcbor_items.proofs.Looks.{peeked_value}
use Rattle.dagcbor_items.proofs.payloads.pull_lent_text_slowly.Goals as goal

pub returns-in_err-peek_major-clause-text : goal.returns-in_err-peek_major-clause-text
returns-in_err-peek_major-clause-text c = as_refusal _ _ _ _ c.from_residual.ensures.1 (text_string_refused _ _ _ _ _ (string_kind_refused _ _ _ _ _ _ c.in_err-peek_major.ensures.kind))

pub returns-clause-text : goal.returns-clause-text
returns-clause-text c = peeked_read _ _ (λ r. r.lends ≡ false) (TextCause c.args.name.now) _ _ c.in_ok-peek_major.ensures.kind.2 (λ same x. sym same.lends ∙ x) c.pull_peeked_lent_text.ensures.text

pub returns-clause-looked : goal.returns-clause-looked
returns-clause-looked c =
    let peeked = c.in_ok-peek_major.ensures in
    peeked_value 2 _ _ (λ r. r.lends ≡ false) (TextCause c.args.name.now) _ _ peeked.looked peeked.kind.2 c.pull_peeked_lent_text.ensures.text c.pull_peeked_lent_text.ensures.looked
