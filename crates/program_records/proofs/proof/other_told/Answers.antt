use Rattle.std.proofs.Common.{subst}
use Rattle.ipld_links.specs.Verdicts.{IsVerdict}
use Rattle.ipld_links.specs.declared.verdict.Verdict.TheVariants as verdicts
use Rattle.program_parts.specs.Lines.{verdict_line}
use Rattle.program_records.proofs.Telling.{never_tested, told_as}
use Rattle.program_records.proofs.proof.other_told.Goals as goal

pub returns-in_ok-line-in-OtherBytes : goal.returns-in_ok-line-in-OtherBytes
returns-in_ok-line-in-OtherBytes c =
    let is : IsVerdict (c.args.name.now, c.args.bytes.now) verdicts.OtherBytes = subst (IsVerdict (c.args.name.now, c.args.bytes.now)) c.in-OtherBytes.is c.verify-verdict.ensures in
    (is.1, (c.verify-verdict.result, c.verify-verdict.ensures, told_as c.in_ok-line-in-OtherBytes.line.items (verdict_line ((c.args.name.now, c.args.bytes.now), c.verify-verdict.result)) _ _ _ (c.in_ok-line-in-OtherBytes.ensures.line c.args.bytes.now) c.told_alone.ensures))

pub returns-in_ok-line-in-Unverified : goal.returns-in_ok-line-in-Unverified
returns-in_ok-line-in-Unverified c =
    let is : IsVerdict (c.args.name.now, c.args.bytes.now) verdicts.Unverified = subst (IsVerdict (c.args.name.now, c.args.bytes.now)) c.in-Unverified.is c.verify-verdict.ensures in
    (never_tested (c.args.name.now, c.args.bytes.now) is, (c.verify-verdict.result, c.verify-verdict.ensures, told_as c.in_ok-line-in-Unverified.line.items (verdict_line ((c.args.name.now, c.args.bytes.now), c.verify-verdict.result)) _ _ _ (c.in_ok-line-in-Unverified.ensures.line c.args.bytes.now) c.told_alone-in-Unverified.ensures))
