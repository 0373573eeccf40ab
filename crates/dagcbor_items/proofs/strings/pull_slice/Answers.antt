use Rattle.std.proofs.Common.{sym, ◌∙◌, ◌≡◌, false, codes}
use Rattle.dagcbor_heads.specs.Inputs.{input_reading}
use Rattle.dagcbor_heads.proofs.Refusing.{as_refusal}
use Rattle.dagcbor_items.specs.ReadCauses.{StringCause}
use Rattle.dagcbor_items.proofs.StringReads.{bytes_string_refused, string_kind_refused, peeked_read}
use Rattle.dagcbor_items.proofs.Looks.{peeked_value}
use Rattle.dagcbor_items.proofs.Lacking.{major_lacks, shown_lacks}
use Rattle.dagcbor_items.proofs.strings.pull_slice.Goals as goal

pub returns-in_err-peek_major-clause-bytes : goal.returns-in_err-peek_major-clause-bytes
returns-in_err-peek_major-clause-bytes g c = as_refusal _ _ _ _ c.from_residual.ensures.1 (bytes_string_refused _ _ _ _ (string_kind_refused _ _ _ _ _ _ c.in_err-peek_major.ensures.kind))

pub returns-clause-bytes : goal.returns-clause-bytes
returns-clause-bytes g c = peeked_read _ _ (λ r. r.lends ≡ false) (StringCause (codes "bytes") 2) _ _ c.in_ok-peek_major.ensures.kind.2 (λ same x. sym same.lends ∙ x) c.pull_peeked_slice.ensures.bytes

pub returns-clause-looked : goal.returns-clause-looked
returns-clause-looked g c =
    let peeked = c.in_ok-peek_major.ensures in
    peeked_value 2 _ _ (λ r. r.lends ≡ false) (StringCause (codes "bytes") 2) _ _ peeked.looked peeked.kind.2 c.pull_peeked_slice.ensures.bytes c.pull_peeked_slice.ensures.looked

pub returns-in_err-peek_major-clause-memory : goal.returns-in_err-peek_major-clause-memory
returns-in_err-peek_major-clause-memory g c = as_refusal _ _ _ _ c.from_residual.ensures.1 (major_lacks (codes "bytes") 2 2 2 _ (input_reading g.R.Read.reading c.args.input.now) (input_reading g.R.Read.reading c.peek_major.new.reader) _ c.in_err-peek_major.ensures.kind)

pub returns-clause-memory : goal.returns-clause-memory
returns-clause-memory g c = shown_lacks 2 _ c.in_ok-peek_major.ensures.kind.2 c.pull_peeked_slice.ensures.memory
