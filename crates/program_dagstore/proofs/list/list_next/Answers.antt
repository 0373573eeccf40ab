use Rattle.std.proofs.Common.{arith, sym, subst}
use Rattle.std.proofs.lemmas.Result.{err_from_is_err_and}
use Rattle.sqlite_trees.specs.View.{IsClean}
use Rattle.program_dagstore.specs.Names.{IsListedLine, IsNextLine}
use Rattle.program_dagstore.proofs.Telling.{listed_stays, said_of_next, line_broken, nothing_out}
use Rattle.program_dagstore.proofs.list.list_next.Goals as goal

pub returns-in_err-well-clause-says : goal.returns-in_err-well-clause-says
returns-in_err-well-clause-says g c =
    let old = g.S.Store.view c.args.store.now in
    let mid = g.S.Store.view c.next_name.new.self in
    let new = g.S.Store.view c.listed_said.new.store in
    let was : IsClean new → IsClean mid = λ clean. omega (arith, c.listed_said.ensures.reads.quiet.clean) in
    let p = err_from_is_err_and c.from_residual-in_err-well.result c.from_residual-in_err-well.ensures.1 in
    let next = rw c.in-Some.is at c.in_ok-name.ensures.next in
    rw (p.1, p.2) (line_broken IsListedLine old new c.args.last c.in-Some.name c.in_ok-said.said.1 c.in_ok-said.said.0.items _ _ c.in_err-well.field-0.0 (λ clean. next (was clean))
    (said_of_next IsListedLine old mid new c.args.last c.in-Some.name c.in_ok-said.said.1 c.in_ok-said.said.0.items listed_stays was c.in_ok-name.ensures.reads.same next c.in_ok-said.ensures.said) c.in_err-well.ensures)

pub returns-clause-says : goal.returns-clause-says
returns-clause-says g c =
    let old = g.S.Store.view c.args.store.now in
    let mid = g.S.Store.view c.next_name.new.self in
    let new = g.S.Store.view c.listed_said.new.store in
    let was : IsClean new → IsClean mid = λ clean. omega (arith, c.listed_said.ensures.reads.quiet.clean) in
    let next = rw c.in-Some.is at c.in_ok-name.ensures.next in (
      c.in_ok-said.said.0.items,
      subst (λ w. IsListedLine old new c.in-Some.name w c.in_ok-said.said.0.items) (sym c.in_ok-well.ensures.0)
          (said_of_next IsListedLine old mid new c.args.last c.in-Some.name c.in_ok-said.said.1 c.in_ok-said.said.0.items listed_stays was c.in_ok-name.ensures.reads.same next c.in_ok-said.ensures.said),
      (λ clean. next (was clean)),
      c.in_ok-well.ensures.1,
    )

pub returns-in_err-said-clause-says : goal.returns-in_err-said-clause-says
returns-in_err-said-clause-says g c =
    let p = err_from_is_err_and c.from_residual-in_err-said.result c.from_residual-in_err-said.ensures.1 in
    rw (p.1, p.2) (nothing_out (IsNextLine IsListedLine (g.S.Store.view c.args.store.now) c.args.last (g.S.Store.view c.listed_said.new.store)) (g.W.Write.contents c.args.output.now) c.in_err-said.field-0.0)
