use Rattle.std.proofs.Common.{arith, subst, rules, to_z-of_z, SFits, w64}
use Rattle.std.proofs.lemmas.Result.{err_from_is_err_and}
use Rattle.sqlite_trees.specs.View.{IsClean}
use Rattle.store_rows.specs.Rows.{block_tree, TakesOutEntry, IsFreeId}
use Rattle.store_rows.specs.declared.entries.Added.TheVariants.{New}
use Rattle.store_rows.proofs.Steps.{free_left}
use Rattle.store_rows.proofs.Causes.{only_reads, too_long_as}
use Rattle.store_rows.proofs.Ending.{as_writes, then_ok, then_err}
use Rattle.store_rows.proofs.entries.renew.Goals as goal

pub returns-in_err-take_entry-clause-ends : goal.returns-in_err-take_entry-clause-ends
returns-in_err-take_entry-clause-ends g c =
    let p = err_from_is_err_and c.from_residual-in_err-take_entry.result c.from_residual-in_err-take_entry.ensures.1 in
    let looked = as_writes g.S.Store c.args.store.now c.is_stored.new.store c.in_ok-is_stored.ensures.ends in
    let freed = then_ok {H = ⊥} g.S.Store c.args.store.now c.is_stored.new.store c.free_number.new.store looked (tt {0}) (as_writes g.S.Store c.is_stored.new.store c.free_number.new.store c.in_ok-fresh.ensures.ends) in
    rw (p.1, p.2) (then_err g.S.Store c.args.store.now c.free_number.new.store c.take_entry.new.store freed (λ long. absurd long) c.in_err-take_entry.ensures.ends)

pub returns-in_err-put-clause-ends : goal.returns-in_err-put-clause-ends
returns-in_err-put-clause-ends g c =
    let p = err_from_is_err_and c.from_residual-in_err-put.result c.from_residual-in_err-put.ensures.1 in
    let looked = as_writes g.S.Store c.args.store.now c.is_stored.new.store c.in_ok-is_stored.ensures.ends in
    let freed = then_ok {H = ⊥} g.S.Store c.args.store.now c.is_stored.new.store c.free_number.new.store looked (tt {0}) (as_writes g.S.Store c.is_stored.new.store c.free_number.new.store c.in_ok-fresh.ensures.ends) in
    let taken = then_ok {H = ⊥} g.S.Store c.args.store.now c.free_number.new.store c.take_entry.new.store freed (tt {0}) c.in_ok-take_entry.ensures.ends in
    rw (p.1, p.2) (then_err g.S.Store c.args.store.now c.take_entry.new.store c.put.new.store taken (too_long_as c.args.name.now c.args.bytes.now (g.S.Store.view c.args.store.now) (g.S.Store.view c.take_entry.new.store) taken.schema) c.in_err-put.ensures.ends)

pub returns-clause-ends : goal.returns-clause-ends
returns-clause-ends g c =
    let looked = as_writes g.S.Store c.args.store.now c.is_stored.new.store c.in_ok-is_stored.ensures.ends in
    let freed = then_ok {H = ⊥} g.S.Store c.args.store.now c.is_stored.new.store c.free_number.new.store looked (tt {0}) (as_writes g.S.Store c.is_stored.new.store c.free_number.new.store c.in_ok-fresh.ensures.ends) in
    let taken = then_ok {H = ⊥} g.S.Store c.args.store.now c.free_number.new.store c.take_entry.new.store freed (tt {0}) c.in_ok-take_entry.ensures.ends in
    then_ok g.S.Store c.args.store.now c.take_entry.new.store c.put.new.store taken New c.in_ok-put.ensures.ends

pub returns-clause-ok : goal.returns-clause-ok
returns-clause-ok g c clean =
    let old = g.S.Store.view c.args.store.now in
    let looked = g.S.Store.view c.is_stored.new.store in
    let freed = g.S.Store.view c.free_number.new.store in
    let taken = g.S.Store.view c.take_entry.new.store in
    let clean3 : IsClean taken = omega (arith, c.put.ensures.ends.quiet.clean) in
    let clean2 : IsClean freed = omega (arith, c.take_entry.ensures.ends.quiet.clean, c.put.ensures.ends.quiet.clean) in
    let clean1 : IsClean looked = omega (arith, c.free_number.ensures.ends.quiet.clean, c.take_entry.ensures.ends.quiet.clean, c.put.ensures.ends.quiet.clean) in
    let same1 = (only_reads old looked (c.in_ok-is_stored.ensures.ends.frame clean1)).1 in
    let same2 = (only_reads looked freed (c.in_ok-fresh.ensures.ends.frame clean2)).1 in
    let free = rw c.in-Some.is at (c.in_ok-fresh.ensures.ok clean2) in
    let entry = subst (λ t. TakesOutEntry t taken.trees c.args.id c.args.name.now) same1 (subst (λ t. TakesOutEntry t taken.trees c.args.id c.args.name.now) same2 (let fits = c.ranges.id in simp to_z-of_z at (c.in_ok-take_entry.ensures.ok clean3))) in (
      rw c.if-branch.false at (let fits = c.ranges.id in simp to_z-of_z at (c.in_ok-is_stored.ensures.ok clean1)),
      (
        taken.trees,
        entry,
        (
          c.in-Some.fresh,
          free_left old.trees taken.trees c.args.id c.in-Some.fresh c.args.name.now entry (subst (λ t. IsFreeId (t block_tree) c.in-Some.fresh) same1 free),
          (let fits : SFits w64 c.in-Some.fresh = search rules in simp to_z-of_z at (c.in_ok-put.ensures.row clean)),
          (let fits : SFits w64 c.in-Some.fresh = search rules in simp to_z-of_z at (c.in_ok-put.ensures.entry clean)),
        ),
      ),
    )
