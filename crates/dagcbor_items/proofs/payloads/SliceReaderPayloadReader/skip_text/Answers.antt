use Rattle.std.proofs.Common.{◌≡◌, false}
use Rattle.dagcbor_heads.proofs.Refusing.{as_refusal}
use Rattle.dagcbor_items.proofs.StringItems.{text_taken, text_refused}
use Rattle.dagcbor_items.proofs.Looks.{front_looked}
use Rattle.dagcbor_items.proofs.payloads.SliceReaderPayloadReader.skip_text.Goals as goal

pub returns-in_err-pull_peeked_lent_text-clause-item : goal.returns-in_err-pull_peeked_lent_text-clause-item
returns-in_err-pull_peeked_lent_text-clause-item c =
    as_refusal _ _ _ _ c.from_residual.ensures.1 (text_refused (c.args.self.now.lends ≡ false) _ _ _ c.requires c.in_err-pull_peeked_lent_text.ensures.text)

pub returns-clause-item : goal.returns-clause-item
returns-clause-item c = (_, text_taken _ c.in_ok-pull_peeked_lent_text.ensures.text)

pub returns-clause-looked : goal.returns-clause-looked
returns-clause-looked c = front_looked c.in_ok-pull_peeked_lent_text.ensures.looked c.in_ok-pull_peeked_lent_text.ensures.text
