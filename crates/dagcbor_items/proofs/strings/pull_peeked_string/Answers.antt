use Rattle.dagcbor_heads.proofs.Refusing.{as_refusal}
use Rattle.dagcbor_items.proofs.HeadMajors.{head_kind}
use Rattle.dagcbor_items.proofs.StringReads.{string_read, string_head_refused}
use Rattle.dagcbor_items.proofs.Looks.{looks_after_some}
use Rattle.dagcbor_items.proofs.Lacking.{head_lacks, payload_lacks}
use Rattle.dagcbor_items.proofs.strings.pull_peeked_string.Goals as goal

pub returns-in_err-count-clause-string : goal.returns-in_err-count-clause-string
returns-in_err-count-clause-string g c =
    as_refusal _ _ _ _ c.from_residual.ensures.1 (string_head_refused _ _ _ _ _ _ c.requires.few c.requires.starts c.in_err-count.ensures.variant c.in_err-count.ensures.taken)

pub returns-clause-string : goal.returns-clause-string
returns-clause-string g c = string_read _ c.args.kind _ _ (head_kind c.requires.starts c.in_ok-count.ensures.taken) c.pull_payload.ensures.variant c.pull_payload.ensures.taken

pub returns-clause-looked : goal.returns-clause-looked
returns-clause-looked g c = looks_after_some _ _ c.in_ok-count.ensures.looked c.pull_payload.ensures.looked

pub returns-in_err-count-clause-memory : goal.returns-in_err-count-clause-memory
returns-in_err-count-clause-memory g c = as_refusal _ _ _ _ c.from_residual.ensures.1 (head_lacks _ _ _ _ c.in_err-count.ensures.variant)

pub returns-clause-memory : goal.returns-clause-memory
returns-clause-memory g c = payload_lacks _ (head_kind c.requires.starts c.in_ok-count.ensures.taken) c.pull_payload.ensures.empty
