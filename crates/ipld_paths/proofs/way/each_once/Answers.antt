use Rattle.std.proofs.Common.{◌≡◌, true, false, sym, ◌∙◌, subst, take, ◌++◌, ◌∷◌, []}
use Rattle.ipld_paths.proofs.Gathering.{Gathered, gathered_before, gathered_new, next_taken}
use Rattle.ipld_paths.proofs.way.each_once.Goals.{then-not-contains+in_ok-add+in_ok-push, else-not-contains}
use Rattle.ipld_paths.proofs.way.each_once.Goals as goal

pub loop-name-preserved : goal.loop-name-preserved
loop-name-preserved c =
    let more = next_taken c.args.names.now c.loop-name.name-index c.name-item.result c.loop-name-test.true c.name-item.is in
    subst (λ done. Gathered done c.if-not-contains.once.items c.if-not-contains.seen) more (elim c.if-not-contains.branch [
      | then-not-contains+in_ok-add+in_ok-push w ↦
          let fresh : c.contains.result ≡ true → ⊥ = λ is. let clash : true ≡ false = sym is ∙ w.if-not-contains.true in cc clash in
          subst (λ o. Gathered (take c.loop-name.name-index c.args.names.now ++ c.name-item.result ∷ []) o.items c.if-not-contains.seen) (sym w.once-is)
          (subst (Gathered (take c.loop-name.name-index c.args.names.now ++ c.name-item.result ∷ []) w.push.new.self.items) (sym w.seen-is)
          (gathered_new _ c.loop-name.once.items w.push.new.self.items c.loop-name.seen w.add.new.self c.name-item.result (λ m. fresh (c.contains.ensures.1 m)) w.in_ok-add.ensures w.in_ok-push.ensures.items c.loop-name.invariant))
      | else-not-contains w ↦
          subst (λ o. Gathered (take c.loop-name.name-index c.args.names.now ++ c.name-item.result ∷ []) o.items c.if-not-contains.seen) (sym w.once-is)
          (subst (Gathered (take c.loop-name.name-index c.args.names.now ++ c.name-item.result ∷ []) c.loop-name.once.items) (sym w.seen-is)
          (gathered_before _ c.loop-name.once.items c.loop-name.seen c.name-item.result (c.contains.ensures.0 w.if-not-contains.false) c.loop-name.invariant))
    ])
