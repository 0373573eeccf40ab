use Rattle.std.proofs.Common.{OnOk, sym, ap, ◌∙◌, subst, arith}
use Rattle.atproto_mst.specs.Changes.{change_of}
use Rattle.atproto_events.specs.Pieces.{pieces, entry_piece}
use Rattle.atproto_events.specs.Undone.{StepsBack}
use Rattle.atproto_events.proofs.Stepping.{put_in, is_none}
use Rattle.atproto_events.proofs.steps.undo_absent.Goals as goal
use Rattle.atproto_events.proofs.steps.undo_absent.Goals.{in-Ok, in-Err}

pub returns-clause-undone : goal.returns-clause-undone
returns-clause-undone c = elim c.match-insert.branch [
  | in-Ok w ↦ subst (λ r. OnOk r (StepsBack (change_of c.args.change.now) (pieces c.args.all.now.items) (pieces c.insert.new.self.items))) (sym w.result-is)
      (subst (λ v. StepsBack (change_of c.args.change.now) (pieces c.args.all.now.items) (pieces v)) (sym w.in-Ok.ensures.items)
      (put_in (change_of c.args.change.now) c.args.at c.args.all.now.items c.in_ok-piece.piece c.in-Some.old c.requires.bound c.requires.front c.requires.rest
      (is_none c.args.change.now.new c.is_some.result c.if-is_some.false c.is_some.ensures) c.in-Some.is (omega (arith, c.if-length-lt1.false), omega (arith, c.if-length-gt-LONGEST_KEY.false))
      (c.in_ok-piece.ensures.piece ∙ ap (λ k. entry_piece k c.in-Some.old) c.deref.ensures.value)))
  | in-Err w ↦ subst (λ r. OnOk r (StepsBack (change_of c.args.change.now) (pieces c.args.all.now.items) (pieces c.insert.new.self.items))) (sym w.result-is) tt
]
