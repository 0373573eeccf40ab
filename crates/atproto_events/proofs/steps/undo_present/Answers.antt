use Rattle.std.proofs.Common.{refl, sym, ap, ◌∙◌, subst}
use Rattle.atproto_mst.specs.Changes.{change_of}
use Rattle.atproto_mst.proofs.Comparing.{same_name}
use Rattle.atproto_mst.proofs.Naming.{other_name}
use Rattle.atproto_events.specs.Pieces.{pieces}
use Rattle.atproto_events.specs.Undone.{StepsBack}
use Rattle.atproto_events.proofs.Stepping.{set_back, taken_away, other_record, some_record, one_piece, names_differ}
use Rattle.atproto_events.proofs.steps.undo_present.Goals as goal
use Rattle.atproto_events.proofs.steps.undo_present.Goals.{in-Some-old, in-None+in-Some-1, in-None+in-None-1}

pub returns-in_default-clause-refused : goal.returns-in_default-clause-refused
returns-in_default-clause-refused c =
    some_record c.args.change.now.key.items c.args.at c.args.all.now.items c.args.change.now.new c.requires.key c.requires.placed c.in_default.not-Some

pub returns-then-ne-clause-refused : goal.returns-then-ne-clause-refused
returns-then-ne-clause-refused c =
    other_record c.args.change.now.key.items c.args.at c.args.all.now.items c.index.result.now c.args.change.now.new (sym c.index.ensures) c.requires.key c.requires.placed
    (names_differ c.index.result.now c.args.change.now.new c.in-Some.now c.in-Some.is (other_name c.index.result.now.cid c.in-Some.now c.ne.result c.if-ne.true c.ne.ensures))

pub returns-clause-undone : goal.returns-clause-undone
returns-clause-undone c =
    let same = same_name c.index.result.now.cid c.in-Some.now c.ne.result c.if-ne.false c.ne.ensures in
    let old = c.args.all.now.items in
    elim c.match-change-2.branch [
      | in-Some-old w ↦ subst (λ v. StepsBack (change_of c.args.change.now) (pieces old) (pieces v.items)) (sym w.all-is)
          (set_back (change_of c.args.change.now) c.args.at old w.index_mut.result.now record { layer = w.index_mut.result.now.layer; key = w.index_mut.result.now.key; cid = w.in-Some-old.old } c.in-Some.now w.in-Some-old.old
          (sym w.index_mut.ensures.value) c.requires.key c.requires.placed c.in-Some.is w.in-Some-old.is
          (ap (λ d. d.cid) (one_piece c.args.at old w.index_mut.result.now c.index.result.now c.requires.bound (sym w.index_mut.ensures.value) (sym c.index.ensures)) ∙ same) refl)
      | in-None+in-Some-1 w ↦ subst (λ v. StepsBack (change_of c.args.change.now) (pieces old) (pieces v.items)) (sym w.all-is)
          (subst (λ v. StepsBack (change_of c.args.change.now) (pieces old) (pieces v)) (sym w.remove-removed.ensures.items)
          (taken_away (change_of c.args.change.now) c.args.at old c.index.result.now c.in-Some.now (sym c.index.ensures) c.requires.key c.requires.placed c.in-Some.is w.in-None.is same))
      | in-None+in-None-1 w ↦ subst (λ v. StepsBack (change_of c.args.change.now) (pieces old) (pieces v.items)) (sym w.all-is)
          (subst (λ v. StepsBack (change_of c.args.change.now) (pieces old) (pieces v)) (sym w.remove-removed.ensures.items)
          (taken_away (change_of c.args.change.now) c.args.at old c.index.result.now c.in-Some.now (sym c.index.ensures) c.requires.key c.requires.placed c.in-Some.is w.in-None.is same))
    ]
