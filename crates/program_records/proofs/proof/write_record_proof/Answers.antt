use Rattle.std.proofs.Common.{rules, ◌≡◌, sym, subst}
use Rattle.program_parts.proofs.Known.{if_some}
use Rattle.program_parts.proofs.Saying.{both_said}
use Rattle.program_records.specs.Keys.{IsNamedBy}
use Rattle.program_records.specs.Commits.{OfFile}
use Rattle.program_records.specs.Proofs.{IsProofAt, IsProofOf}
use Rattle.program_records.proofs.CommitTelling.{named_said}
use Rattle.program_records.proofs.proof.write_record_proof.Goals as goal

pub returns-in-Ok : goal.returns-in-Ok
returns-in-Ok g c =
    let same : c.as_bytes.result.now ≡ c.args.word.now = search rules in
    let named : IsNamedBy c.args.word.now c.deref.result.now = subst (λ word. IsNamedBy word c.deref.result.now) same
    (subst (IsNamedBy c.as_bytes.result.now) (sym c.deref.ensures.value) c.in_ok-key.ensures) in
    if_some (g.R.Read.remaining c.args.input.now) c.in-Ok.ensures (λ b h.
    both_said (OfFile (IsProofOf c.args.word.now) b) c.in-Ok.said.0.items c.deref-in-Ok.result.now c.in-Ok.said.1 _ _ c.say_both.result _ _
    (named_said c.args.word.now c.deref.result.now b c.in-Ok.said.1 c.in-Ok.said.0.items c.deref-in-Ok.result.now named
    (subst (OfFile (IsProofAt c.deref.result.now) b c.in-Ok.said.1 c.in-Ok.said.0.items) (sym c.deref-in-Ok.ensures.value) h)) c.say_both.ensures)
