use Rattle.std.proofs.Common.{◌-◌, ◌<◌, length, ap, ◌∙◌, arith, length-drop}
use Rattle.abi_calls.proofs.Tapes.{no_zero, no_length, no_other_string, no_other_byte, no_cid_payload, link_split, after_shorter}
use Rattle.abi_calls.proofs.Standing.{link_nowhere, link_other, link_empty, link_no_zero, link_short, link_cut, link_whole}
use Rattle.abi_calls.proofs.tape.split_link.Goals as goal

pub returns-in_err-major-clause-stands : goal.returns-in_err-major-clause-stands
returns-in_err-major-clause-stands c = rw c.from_residual.ensures (link_nowhere _ c.in_err-major.ensures)

pub returns-then-major-ne2 : goal.returns-then-major-ne2
returns-then-major-ne2 c =
    let h = c.in_ok-major.ensures in
    record { tokens = λ cid more. no_other_string _ _ _ c.in_ok-major.payload.now cid more h c.if-major-ne2.true; stands = link_other _ _ _ c.in_ok-major.payload.now h c.if-major-ne2.true }

pub returns-in_err-zero : goal.returns-in_err-zero
returns-in_err-zero c =
    let h = c.in_ok-major.ensures in
    rw c.from_residual-in_err-zero.ensures record { tokens = λ cid more. no_zero _ _ _ _ cid more h c.in_err-zero.ensures.cases; stands = link_empty _ _ _ _ h c.in_err-zero.ensures.cases }

pub returns-then-zero-ne0 : goal.returns-then-zero-ne0
returns-then-zero-ne0 c =
    let h = c.in_ok-major.ensures in
    let d = c.in_ok-zero.ensures.cases.0 in
    record { tokens = λ cid more. no_other_byte _ _ _ _ _ _ cid more h d c.if-zero-ne0.true; stands = link_no_zero _ _ _ _ _ _ h d c.if-zero-ne0.true }

pub returns-then-count-lt1 : goal.returns-then-count-lt1
returns-then-count-lt1 c =
    let h = c.in_ok-major.ensures in
    record { tokens = λ cid more. no_length _ _ _ c.in_ok-major.payload.now cid more h c.if-count-lt1.true; stands = link_short _ _ _ c.in_ok-major.payload.now h c.if-count-lt1.true }

pub returns-in_err-rest : goal.returns-in_err-rest
returns-in_err-rest c =
    let h = c.in_ok-major.ensures in
    let d = c.in_ok-zero.ensures.cases.0 in
    rw c.from_residual-in_err-rest.ensures record { tokens = λ cid more. no_cid_payload _ _ _ _ _ _ cid more h d c.in_err-rest.ensures; stands = link_cut _ _ _ _ _ _ h d c.in_err-rest.ensures }

pub returns : goal.returns
returns c =
    let h = c.in_ok-major.ensures in
    let d = c.in_ok-zero.ensures.cases.0 in
    let shorter : length c.in_ok-rest.rest.now < length c.args.bytes.now = omega (arith, after_shorter _ _ _ c.in_ok-major.payload.now h, ap length d, ap length c.in_ok-rest.ensures.1, length-drop (c.in_ok-major.count - 1) c.in_ok-zero.cid.now) in
    record {
      tokens = (shorter, λ cid more f. let k = link_split c.args.whole _ _ _ _ _ _ cid more h d f in (c.token_before.ensures ∙ k.0, c.in_ok-rest.ensures.1 ∙ k.1));
      stands = link_whole _ c.args.whole _ c.in_ok-major.payload.now c.in_ok-zero.cid.now _ _ (rw c.if-major-ne2.false at h) (rw c.if-zero-ne0.false at d) (omega (arith, c.if-count-lt1.false)) c.in_ok-rest.ensures.0 c.in_ok-rest.ensures.1 c.token_before.ensures;
    }
