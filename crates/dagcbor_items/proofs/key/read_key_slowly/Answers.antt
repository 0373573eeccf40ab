use Rattle.std.proofs.Common.{sym}
use Rattle.dagcbor_heads.proofs.Refusing.{as_refusal}
use Rattle.dagcbor_items.proofs.StringItems.{text_taken}
use Rattle.dagcbor_items.proofs.Keys.{key_text_refused, unordered_refused, follows_as}
use Rattle.dagcbor_items.proofs.key.read_key_slowly.Goals as goal

pub returns-in_err-key-clause-key : goal.returns-in_err-key-clause-key
returns-in_err-key-clause-key g c = as_refusal _ _ _ _ c.from_residual.ensures.1 (key_text_refused _ _ _ _ c.in_err-key.ensures.text)

pub returns-then-not-follows-clause-key : goal.returns-then-not-follows-clause-key
returns-then-not-follows-clause-key g c =
    let other = c.if-not-follows.true in
    let same = sym c.as_str.ensures.value in
    unordered_refused g.row.R-Error.Denot _ _ (text_taken _ c.in_ok-key.ensures.text)
    (λ f. let yes = c.follows.ensures.1 (follows_as _ _ _ same f) in absurd (cc (yes, other)))

pub returns-clause-key : goal.returns-clause-key
returns-clause-key g c =
    let follows = c.follows.ensures.0 c.if-not-follows.false in
    (follows_as _ _ _ c.as_str.ensures.value follows, c.in_ok-key.ensures.text)
