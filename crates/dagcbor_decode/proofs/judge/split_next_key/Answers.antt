use Rattle.std.proofs.Common.{sym, ◌∙◌}
use Rattle.dagcbor_decode.proofs.Standing.{key_read}
use Rattle.dagcbor_decode.proofs.Refusing.{no_next_key, no_key_in_order}
use Rattle.dagcbor_decode.proofs.judge.split_next_key.Goals as goal

pub returns-in_err-key : goal.returns-in_err-key
returns-in_err-key c = rw c.from_residual.ensures (no_next_key _ c.args.bytes.now (λ i. (c.type_inv.bytes i).fits) c.in_err-key.ensures)

pub returns-then-not-follows : goal.returns-then-not-follows
returns-then-not-follows c = no_key_in_order _ c.args.bytes.now _ _ (λ i. (c.type_inv.bytes i).fits) c.in_ok-key.ensures (sym c.follows.ensures ∙ c.if-not-follows.true)

pub returns : goal.returns
returns c = key_read _ c.args.bytes.now _ _ c.in_ok-key.ensures (sym c.follows.ensures ∙ c.if-not-follows.false)
