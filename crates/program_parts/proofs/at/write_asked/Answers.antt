use Rattle.std.proofs.Common.{inl, inr, false, refl, sym, subst}
use Rattle.std.specs.Bool.{⊤}
use Rattle.dagcbor_items.specs.Walks.{forms}
use Rattle.ipld_links.specs.Reaching.{stored_in}
use Rattle.program_parts.specs.Holding.{TellsFault}
use Rattle.program_parts.specs.Paths.{IsAnswerOf, IsAnswerOfFile}
use Rattle.ipld_paths.specs.Paths.{segments}
use Rattle.program_parts.proofs.Known.{if_some}
use Rattle.program_parts.proofs.Saying.{both_said, both_of}
use Rattle.program_parts.proofs.at.write_asked.Goals as goal

pub returns-in-Ok-Ok : goal.returns-in-Ok-Ok
returns-in-Ok-Ok g c = if_some (g.R.Read.remaining c.args.input.now) (rw c.in-Ok-Ok.field-0-is at c.in-Ok-Ok.ensures) (λ b k.
    both_of (IsAnswerOf c.args.asked c.args.root.now (segments c.args.path.now) (stored_in c.in-Ok-Ok.held.blocks)) (IsAnswerOfFile c.args.asked c.args.root.now (segments c.args.path.now) b) (g.W.Write.contents c.args.output.now) (g.V.Write.contents c.args.errors.now) c.say_asked.result _ _ (λ well said told t. inl (forms c.in-Ok-Ok.held.roots.items, k.0, k.1, (stored_in c.in-Ok-Ok.held.blocks, k.2, t))) c.say_asked.ensures)

pub returns-in-Ok-Err : goal.returns-in-Ok-Err
returns-in-Ok-Err g c = if_some (g.R.Read.remaining c.args.input.now) (rw c.in-Ok-Err.field-0-is at c.in-Ok-Err.ensures) (λ b h.
    both_said (IsAnswerOfFile c.args.asked c.args.root.now (segments c.args.path.now) b) c.new.result.items c.deref.result.now false _ _ c.say_both.result _ _ (inr (refl, c.new.ensures.items, subst (TellsFault (λ ss. ⊤) b) (sym c.deref.ensures.value) h)) c.say_both.ensures)
