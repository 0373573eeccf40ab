use Rattle.std.proofs.Common.{rules, arith, ◌≡◌, sym, ap, ◌∙◌, [], ◌∷◌}
use Rattle.std.proofs.lemmas.Result.{IfOk-weaker}
use Rattle.sqlite_value.specs.declared.value.Value.TheVariants.{Blob}
use Rattle.sqlite_value.specs.Keys.{plain}
use Rattle.sqlite_trees.specs.Tree.{from_key}
use Rattle.sqlite_trees.specs.View.{IsClean}
use Rattle.store_rows.specs.Rows.{name_tree}
use Rattle.store_rows.proofs.Finding.{seeks, sought_name, index_rises}
use Rattle.store_rows.proofs.entries.seek_name.Goals as goal

pub returns-clause-ok : goal.returns-clause-ok
returns-clause-ok g c = IfOk-weaker c.next.result _ _ (λ is_there moved clean.
    let old = g.S.Store.view c.args.store.now in
    let mid : IsClean (g.S.Store.view c.seek.new.self) = omega (arith, c.next.ensures.quiet.clean) in
    let was : IsClean old = omega (arith, c.seek.ensures.quiet.clean) in
    let key : c.push.new.self ≡ Blob c.args.name.now ∷ [] = search rules in
    let at = ap (λ k. from_key plain k (old.trees name_tree)) (sym key) ∙ sym (sought_name old _ c.push.new.self (c.requires.names was) (c.in_ok-seek.ensures.ok mid)) in
    let up = index_rises old (c.requires.names was) (g.met.S.Store.ordered c.args.store.now (c.in_ok-seek.ensures.sound mid)) in
    seeks (old.trees name_tree) c.args.name.now (g.S.Store.view c.seek.new.self) (g.S.Store.view c.next.new.self) c.next.new.row is_there up at (moved clean)) c.next.ensures.ok
