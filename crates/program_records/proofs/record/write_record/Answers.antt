use Rattle.std.proofs.Common.{rules, ◌≡◌, sym, subst}
use Rattle.program_parts.proofs.Known.{if_some}
use Rattle.program_parts.proofs.Saying.{both_said}
use Rattle.program_records.specs.Records.{IsRecord}
use Rattle.program_records.proofs.record.write_record.Goals as goal

pub returns-in-Ok : goal.returns-in-Ok
returns-in-Ok g c =
    let same : c.as_bytes.result.now ≡ c.args.word.now = search rules in
    if_some (g.R.Read.remaining c.args.input.now) c.in-Ok.ensures (λ b h.
    both_said (IsRecord c.args.word.now b) c.in-Ok.said.0.items c.deref.result.now c.in-Ok.said.1 _ _ c.say_both.result _ _ (subst (IsRecord c.args.word.now b c.in-Ok.said.1 c.in-Ok.said.0.items) (sym c.deref.ensures.value) (subst (λ key. IsRecord key b c.in-Ok.said.1 c.in-Ok.said.0.items c.in-Ok.told.items) same h)) c.say_both.ensures)
