use Rattle.std.proofs.Common.{arith, sym, subst, Some, [], ◌∷◌, ◌++◌}
use Rattle.dagcbor_heads.specs.Written.{WroteAll}
use Rattle.files_car.specs.Car.{car_bytes}
use Rattle.std.proofs.lemmas.Result.{err_from_is_err_and}
use Rattle.sqlite_trees.specs.View.{IsClean}
use Rattle.dagcbor_items.specs.Walks.{forms}
use Rattle.store_on_disk.proofs.Walking.{written_begun, written_more, header_unwritten, next_unwritten, is_car, all_blocks, none_same, same_then, gave_up}
use Rattle.store_on_disk.proofs.store.BlockStore.write_car.Goals as goal

pub returns-in_err-begin-clause-refused : goal.returns-in_err-begin-clause-refused
returns-in_err-begin-clause-refused g c =
    let p = err_from_is_err_and c.from_residual.result c.from_residual.ensures.1 in
    rw (p.1, p.2) (header_unwritten g.S.Store (forms c.args.roots.now) c.args.self.now (g.W.Write.written c.args.writer.now) (g.W.Write.written c.begin.new.writer) c.in_err-begin.field-0.0 c.in_err-begin.ensures.begins)

pub loop-count-init : goal.loop-count-init
loop-count-init g c = ([], written_begun g.S.Store (forms c.args.roots.now) c.args.self.now (g.W.Write.written c.args.writer.now) (g.W.Write.written c.begin.new.writer) c.in_ok-begin.ensures.begins.0 c.in_ok-begin.ensures.begins.1)

pub returns-in_err-name-clause-refused : goal.returns-in_err-name-clause-refused
returns-in_err-name-clause-refused g c =
    let p = err_from_is_err_and c.from_residual-in_err-name.result c.from_residual-in_err-name.ensures.1 in
    let i = c.loop-count.invariant in
    rw (p.1, p.2) (next_unwritten g.S.Store (forms c.args.roots.now) c.args.self.now c.loop-count.self c.push_next.new.self (g.W.Write.written c.args.writer.now) (g.W.Write.written c.loop-count.writer) (g.W.Write.written c.push_next.new.writer) c.loop-count.last i.0
    c.in_err-name.field-0.0 i.1 c.push_next.ensures.quiet c.in_err-name.ensures.next)

pub returns-in-None-clause-ok : goal.returns-in-None-clause-ok
returns-in-None-clause-ok g c =
    let i = c.loop-count.invariant in
    let n = rw c.in-None.is at c.in_ok-name.ensures.next in
    let v = g.S.Store.view c.args.self.now in
    record {
      sections = i.0;
      named = i.1.named;
      wrote = subst (λ w. WroteAll (Some (car_bytes (forms c.args.roots.now) i.0)) (g.W.Write.written c.args.writer.now) w) (sym n.0) i.1.wrote;
      is_car = is_car g.S.Store (forms c.args.roots.now) c.args.self.now c.loop-count.self (g.W.Write.written c.args.writer.now) (g.W.Write.written c.loop-count.writer) c.loop-count.last i.0 i.1;
      are_so = λ clean.
          let mid : IsClean (g.S.Store.view c.loop-count.self) = omega (arith, c.push_next.ensures.quiet.clean) in
          let w = i.1.walked mid in
          let k = n.1 clean in (
            all_blocks v c.loop-count.last i.0 w.1 (none_same v (g.S.Store.view c.loop-count.self) c.loop-count.last w.0 k.0),
            same_then v (g.S.Store.view c.loop-count.self) (g.S.Store.view c.push_next.new.self) w.0 k.1,
          );
    }

pub loop-count-preserved : goal.loop-count-preserved
loop-count-preserved g c =
    let i = c.loop-count.invariant in
    let n = rw c.in-Some.is at c.in_ok-name.ensures.next in (
      i.0 ++ (c.in-Some.name, n.bytes) ∷ [],
      written_more g.S.Store (forms c.args.roots.now) c.args.self.now c.loop-count.self c.push_next.new.self (g.W.Write.written c.args.writer.now) (g.W.Write.written c.loop-count.writer) (g.W.Write.written c.push_next.new.writer) c.loop-count.last i.0
          c.in-Some.name n.bytes i.1 n.named n.is_section n.is_so n.wrote c.push_next.ensures.quiet,
    )

pub returns-clause-refused : goal.returns-clause-refused
returns-clause-refused g c =
    let i = c.loop-count.invariant in
    gave_up g.S.Store (forms c.args.roots.now) c.args.self.now c.loop-count.self c.give_up.new.self (g.W.Write.written c.args.writer.now) (g.W.Write.written c.loop-count.writer) c.loop-count.last i.0 c.give_up.result i.1 c.give_up.ensures.quiet c.give_up.ensures.walk
