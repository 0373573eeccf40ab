use Rattle.std.proofs.Common.{◌≡◌, false, Ok, Err}
use Rattle.std.specs.declared.convert.Infallible.{Infallible}
use Rattle.std.specs.declared.borrow.CowSlice.TheVariants.{Borrowed}
use Rattle.dagcbor_heads.proofs.Refusing.{as_refusal}
use Rattle.dagcbor_items.proofs.StringReads.{bytes_read}
use Rattle.dagcbor_items.proofs.StringItems.{bytes_taken, bytes_refused}
use Rattle.dagcbor_items.proofs.Looks.{front_looked}
use Rattle.dagcbor_items.proofs.payloads.SliceReaderPayloadReader.skip_bytes.Goals as goal

pub returns-in_err-pull_peeked_lent_string-clause-item : goal.returns-in_err-pull_peeked_lent_string-clause-item
returns-in_err-pull_peeked_lent_string-clause-item c =
    as_refusal _ _ _ _ c.from_residual.ensures.1 (bytes_refused (c.args.self.now.lends ≡ false) _ _ _ c.requires (bytes_read _ _ (Err _) c.in_err-pull_peeked_lent_string.ensures.string))

pub returns-clause-item : goal.returns-clause-item
returns-clause-item c = (_, bytes_taken c.in_ok-pull_peeked_lent_string.field-0.now (bytes_read {E = Infallible} _ _ (Ok (Borrowed c.in_ok-pull_peeked_lent_string.field-0)) c.in_ok-pull_peeked_lent_string.ensures.string))

pub returns-clause-looked : goal.returns-clause-looked
returns-clause-looked c =
    front_looked c.in_ok-pull_peeked_lent_string.ensures.looked (bytes_read {E = Infallible} _ _ (Ok (Borrowed c.in_ok-pull_peeked_lent_string.field-0)) c.in_ok-pull_peeked_lent_string.ensures.string)
