use Rattle.std.proofs.Common.{Some, refl, ap, ◌∙◌}
use Rattle.program_parts.proofs.Contents.{well_verified}
use Rattle.program_parts.proofs.stop.take_named.Goals as goal

pub returns-in-Ok : goal.returns-in-Ok
returns-in-Ok c = λ stored below w next are blocks holds.
    let verified = well_verified (c.args.name.now, c.args.bytes.now) c.verify-verdict.result c.verify-verdict.ensures (cc (c.is_well.ensures, c.if-is_well.true)) in
    (c.in-Ok.ensures.taken blocks below w (record {
      is = next.1;
      held = ap blocks next.2 ∙ holds c.args.name.now c.args.bytes.now next.0 are verified;
    })).0

pub returns-in-Err : goal.returns-in-Err
returns-in-Err c = λ stored below w next are.
    let verified = well_verified (c.args.name.now, c.args.bytes.now) c.verify-verdict.result c.verify-verdict.ensures (cc (c.is_well.ensures, c.if-is_well.true)) in
    (c.args.bytes.now, are, verified, (c.in-Err.ensures.taken (λ cid. Some c.args.bytes.now) below w (record { is = next.1; held = refl })).0)
