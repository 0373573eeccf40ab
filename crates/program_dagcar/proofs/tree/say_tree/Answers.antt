use Rattle.std.proofs.Common.{inl, inr, false, refl, [], ◌∙◌}
use Rattle.ipld_links.specs.Reaching.{stored_in}
use Rattle.program_dagcar.specs.Finding.{IsTreeFound, IsTreeOf}
use Rattle.program_parts.proofs.Saying.{both_said, both_of}
use Rattle.program_dagcar.proofs.tree.say_tree.Goals as goal

pub returns-in-Ok : goal.returns-in-Ok
returns-in-Ok g c =
    both_of (IsTreeFound (stored_in c.args.blocks.now) c.args.root.now) (IsTreeOf (stored_in c.args.blocks.now) c.args.root.now) (g.W.Write.contents c.args.output.now) (g.V.Write.contents c.args.errors.now) c.say_reached.result _ _ (λ well said told t. inl t)
    (c.say_reached.ensures (rw c.in-Ok.is at c.in_ok-reached.ensures))

pub returns-in_ok-line-in-Err : goal.returns-in_ok-line-in-Err
returns-in_ok-line-in-Err g c =
    both_said (IsTreeOf (stored_in c.args.blocks.now) c.args.root.now) c.new.result.items c.deref.result.now false _ _ c.say_both.result _ _
    (inr (refl, c.new.ensures.items, (c.in-Err.hidden, rw c.in-Err.is at c.in_ok-reached.ensures, c.deref.ensures.value ∙ c.in_ok-line-in-Err.ensures.line []))) c.say_both.ensures
