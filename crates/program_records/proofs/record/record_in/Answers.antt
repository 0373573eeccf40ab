use Rattle.std.proofs.Common.{inl, sym, subst}
use Rattle.dagcbor_items.specs.Walks.{forms}
use Rattle.files_car.specs.Versions.{IsFile}
use Rattle.ipld_links.specs.Reaching.{stored_in}
use Rattle.program_parts.proofs.Known.{if_some}
use Rattle.program_records.specs.Keys.{IsNamedBy}
use Rattle.program_records.proofs.record.record_in.Goals as goal

pub returns-in_ok-answer-in-Ok-Ok : goal.returns-in_ok-answer-in-Ok-Ok
returns-in_ok-answer-in-Ok-Ok g c = if_some (g.R.Read.remaining c.args.input.now) (rw c.in-Ok-Ok.field-0-is at c.in-Ok-Ok.ensures) (λ b k. inl (
  c.deref-in-Ok-Ok.result.now,
  c.deref.result.now,
  stored_in c.in-Ok-Ok.held.blocks,
  subst (IsNamedBy c.args.word.now) (sym c.deref-in-Ok-Ok.ensures.value) c.in_ok-key-in-Ok-Ok.ensures,
  (k.0, subst (λ rs. IsFile b (forms rs) k.0) (sym c.deref.ensures.value) k.1, k.2),
  c.in_ok-answer-in-Ok-Ok.ensures,
))
