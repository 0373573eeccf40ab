use Rattle.std.proofs.Common.{inl, inr, subst}
use Rattle.ipld_links.specs.Verdicts.{IsVerdict}
use Rattle.ipld_links.specs.declared.verdict.Verdict.TheVariants as verdicts
use Rattle.program_records.proofs.Telling.{if_ok, never_tested, tested}
use Rattle.program_records.proofs.record.bytes_said.Goals as goal

pub returns-in-OtherBytes : goal.returns-in-OtherBytes
returns-in-OtherBytes c =
    let is : IsVerdict (c.args.name.now, c.args.bytes.now) verdicts.OtherBytes = subst (IsVerdict (c.args.name.now, c.args.bytes.now)) c.in-OtherBytes.is c.verify-verdict.ensures in
    if_ok c.verdict_told.result (c.verdict_told.ensures c.args.bytes.now) (λ p h. inr (is.1, (c.verify-verdict.result, c.verify-verdict.ensures, h)))

pub returns-in-Unverified : goal.returns-in-Unverified
returns-in-Unverified c =
    let is : IsVerdict (c.args.name.now, c.args.bytes.now) verdicts.Unverified = subst (IsVerdict (c.args.name.now, c.args.bytes.now)) c.in-Unverified.is c.verify-verdict.ensures in
    if_ok c.verdict_told-in-Unverified.result (c.verdict_told-in-Unverified.ensures c.args.bytes.now) (λ p h. inr (never_tested (c.args.name.now, c.args.bytes.now) is, (c.verify-verdict.result, c.verify-verdict.ensures, h)))

pub returns-in_default : goal.returns-in_default
returns-in_default c = if_ok c.verified_said.result c.verified_said.ensures (λ p h. inl (tested (c.args.name.now, c.args.bytes.now) c.verify-verdict.result c.verify-verdict.ensures c.in_default.not-OtherBytes c.in_default.not-Unverified, h))
