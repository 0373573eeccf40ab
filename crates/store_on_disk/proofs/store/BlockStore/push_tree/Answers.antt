use Rattle.std.proofs.Common.{[], ◌∷◌, ◌++◌, arith}
use Rattle.std.proofs.lemmas.Result.{err_from_is_err_and}
use Rattle.store_on_disk.proofs.Trees.{tree_begun, tree_unbegun, tree_more, tree_stopped, tree_done}
use Rattle.store_on_disk.proofs.store.BlockStore.push_tree.Goals as goal

pub returns-in_err-begin-clause-refused : goal.returns-in_err-begin-clause-refused
returns-in_err-begin-clause-refused g c =
    let p = err_from_is_err_and c.from_residual.result c.from_residual.ensures.1 in
    rw (p.1, p.2) (tree_unbegun g.S.Store c.args.root.now c.args.names.now c.args.self.now (g.W.Write.written c.args.writer.now) (g.W.Write.written c.begin.new.writer) c.in_err-begin.field-0.0 c.in_err-begin.ensures.begins)

pub loop-name-init : goal.loop-name-init
loop-name-init g c = ([], tree_begun g.S.Store c.args.root.now c.args.names.now c.args.self.now (g.W.Write.written c.args.writer.now) (g.W.Write.written c.begin.new.writer) c.in_ok-begin.ensures.begins.0 c.in_ok-begin.ensures.begins.1)

pub returns-in_err-push_named-clause-refused : goal.returns-in_err-push_named-clause-refused
returns-in_err-push_named-clause-refused g c =
    let p = err_from_is_err_and c.from_residual-in_err-push_named.result c.from_residual-in_err-push_named.ensures.1 in
    let i = c.loop-name.invariant in
    rw (p.1, p.2) (tree_stopped g.S.Store c.args.root.now c.args.names.now c.args.self.now (g.W.Write.written c.args.writer.now) c.loop-name.self c.push_named.new.self (g.W.Write.written c.loop-name.writer) (g.W.Write.written c.push_named.new.writer)
    c.loop-name.name-index i.0 i.1 c.push_named.ensures.quiet c.name-item.result c.in_err-push_named.field-0.0 c.loop-name-test.true c.name-item.is c.in_err-push_named.ensures.named)

pub loop-name-preserved : goal.loop-name-preserved
loop-name-preserved g c =
    let i = c.loop-name.invariant in
    let n = c.in_ok-push_named.ensures.named in (
      i.0 ++ (c.name-item.result, n.bytes) ∷ [],
      tree_more g.S.Store c.args.root.now c.args.names.now c.args.self.now (g.W.Write.written c.args.writer.now) c.loop-name.self c.push_named.new.self (g.W.Write.written c.loop-name.writer) (g.W.Write.written c.push_named.new.writer)
          c.loop-name.name-index i.0 i.1 c.push_named.ensures.quiet c.name-item.result n.bytes c.loop-name-test.true c.name-item.is n.named n.is_section n.wrote n.is_so,
    )

pub returns-clause-ok : goal.returns-clause-ok
returns-clause-ok g c =
    let i = c.loop-name.invariant in
    tree_done g.S.Store c.args.root.now c.args.names.now c.args.self.now (g.W.Write.written c.args.writer.now) c.loop-name.self (g.W.Write.written c.loop-name.writer) c.loop-name.name-index i.0 (omega arith) i.1
