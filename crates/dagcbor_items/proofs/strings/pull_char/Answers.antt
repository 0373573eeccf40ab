use Rattle.dagcbor_heads.proofs.Refusing.{as_refusal}
use Rattle.dagcbor_items.proofs.Characters.{no_char, char_text_refused}
use Rattle.dagcbor_items.proofs.strings.pull_char.Goals as goal

pub returns-clause-character : goal.returns-clause-character
returns-clause-character g c = no_char _ _ _ _ c.custom.ensures c.as_str.ensures.value c.in-None.ensures c.in_ok-text.ensures.text

pub returns-in_err-text-clause-character : goal.returns-in_err-text-clause-character
returns-in_err-text-clause-character g c = as_refusal _ _ _ _ c.from_residual.ensures.1 (char_text_refused _ _ _ _ c.in_err-text.ensures.text)
