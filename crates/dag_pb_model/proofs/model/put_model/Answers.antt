use Rattle.std.proofs.Common.{refl, sym, arith}
use Rattle.ipld_tree.specs.Spelling.{spelling}
use Rattle.dag_pb_model.specs.Model.{node_model}
use Rattle.lent_memory.proofs.Putting.{stays_without_room}
use Rattle.dag_pb_model.proofs.model.put_model.Goals as goal

pub returns-then-count-out : goal.returns-then-count-out
returns-then-count-out c =
    let (parts, is, texts, found, fits) = c.in_ok-found.ensures in
    (node_model parts, (parts, is, texts, refl), c.total-count.ensures parts found, c.fill.ensures parts is)

pub returns-else-count-out : goal.returns-else-count-out
returns-else-count-out c =
    let (parts, is, texts, found, fits) = c.in_ok-found.ensures in
    let counted = c.total-count.ensures parts found in
    (node_model parts, (parts, is, texts, refl), counted, sym (stays_without_room (spelling (node_model parts)) c.args.out.now (omega (arith, counted, c.if-count-out.false))))
