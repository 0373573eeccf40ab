use Rattle.std.proofs.Common.{arith}
use Rattle.std.proofs.lemmas.Result.{err_from_is_err_and}
use Rattle.sqlite_trees.specs.View.{IsClean}
use Rattle.store_on_disk.proofs.Walking.{get_refused_next, holds_same, get_of_next}
use Rattle.store_on_disk.proofs.store.BlockStore.next_block.Goals as goal

pub returns-in_err-block-clause-refused : goal.returns-in_err-block-clause-refused
returns-in_err-block-clause-refused g c =
    let p = err_from_is_err_and c.from_residual-in_err-block.result c.from_residual-in_err-block.ensures.1 in
    rw (p.1, p.2) (get_refused_next g.S.Store c.in-Some.name c.args.self.now c.next_name.new.self c.get_block.new.self c.in_err-block.field-0.0 c.in_ok-name.ensures.reads.quiet c.in_ok-name.ensures.reads.same c.get_block.ensures.reads.quiet c.in_err-block.ensures.refused)

pub returns-in-Some-2-clause-next : goal.returns-in-Some-2-clause-next
returns-in-Some-2-clause-next g c clean =
    let mid : IsClean (g.S.Store.view c.next_name.new.self) = omega (arith, c.get_block.ensures.reads.quiet.clean) in (
      rw c.in-Some.is at (c.in_ok-name.ensures.next mid),
      holds_same (g.S.Store.view c.args.self.now) (g.S.Store.view c.next_name.new.self) c.in-Some.name c.in-Some-2.block.items (c.in_ok-name.ensures.reads.same mid) (rw c.in-Some-2.is at (c.in_ok-block.ensures.found clean)),
    )

pub returns-in_err-block-clause-of_next : goal.returns-in_err-block-clause-of_next
returns-in_err-block-clause-of_next g c =
    let p = err_from_is_err_and c.from_residual-in_err-block.result c.from_residual-in_err-block.ensures.1 in
    rw (p.1, p.2) (get_of_next g.S.Store c.in-Some.name c.args.last c.args.self.now c.next_name.new.self c.get_block.new.self c.in_err-block.field-0.0
    (λ clean. let mid : IsClean (g.S.Store.view c.next_name.new.self) = omega (arith, c.get_block.ensures.reads.quiet.clean) in rw c.in-Some.is at (c.in_ok-name.ensures.next mid)) c.in_err-block.ensures.refused)
