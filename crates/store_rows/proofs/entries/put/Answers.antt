use Rattle.std.proofs.Common.{rules, arith, to_z-of_z, ◌≡◌, inl, refl, sym, subst, Ok}
use Rattle.std.proofs.lemmas.Result.{err_from_is_err_and}
use Rattle.sqlite_trees.specs.View.{IsStorable}
use Rattle.store_rows.specs.Ends.{EndsOnRows, WritesIn, IsOfBlocks}
use Rattle.store_rows.specs.Rows.{block_tree, name_tree, block_row, name_entry}
use Rattle.store_rows.proofs.Causes.{cause_then, row_too_long, entry_too_long}
use Rattle.store_rows.proofs.Ending.{writes_set, then_ends}
use Rattle.store_rows.proofs.entries.put.Goals as goal

pub returns-in_err-put-clause-ends : goal.returns-in_err-put-clause-ends
returns-in_err-put-clause-ends g c =
    let p = err_from_is_err_and c.from_residual-in_err-put.result c.from_residual-in_err-put.ensures.1 in
    let old = g.S.Store.view c.args.store.now in
    let row : c.push-3.new.self ≡ block_row c.args.id c.args.name.now c.args.bytes.now = search rules in
    rw (p.1, p.2) (record {
      frame = tt;
      sound = tt;
      told = c.in_err-put.ensures.told;
      err = λ clean. c.in_err-put.ensures.err.kept;
      cause = λ clean. cause_then old old _ _ _ _ _ c.in_err-put.field-0.0 (omega arith) refl (row_too_long old.reals c.args.name.now c.args.bytes.now c.args.id) (rw row at (c.in_err-put.ensures.cause clean));
      schema = c.put.ensures.schema;
      quiet = c.put.ensures.quiet;
    })

pub returns-clause-ends : goal.returns-clause-ends
returns-clause-ends g c =
    let same = c.in_ok-put.ensures.schema.reals in
    let row : EndsOnRows g.S.Store (WritesIn IsOfBlocks) ⊥ (Ok (tt {0})) c.args.store.now c.put.new.self = record {
      frame = λ clean. writes_set IsOfBlocks block_tree _ _ _ (inl refl) (c.in_ok-put.ensures.frame clean) (c.in_ok-put.ensures.ok clean);
      sound = λ clean. (c.in_ok-put.ensures.ok clean).sound;
      told = tt;
      err = λ clean. tt;
      cause = λ clean. tt;
      schema = c.put.ensures.schema;
      quiet = c.put.ensures.quiet;
    } in
    then_ends g.S.Store c.args.store.now c.put.new.self c.list.new.store c.list.result row
    (λ none. entry_too_long (g.S.Store.view c.args.store.now).reals c.args.name.now c.args.bytes.now c.args.id (λ fits. none (subst (λ r. IsStorable (r name_tree) (name_entry c.args.name.now c.args.id)) (sym same) fits))) (let fits = c.ranges.id in simp to_z-of_z at c.list.ensures.ends)
