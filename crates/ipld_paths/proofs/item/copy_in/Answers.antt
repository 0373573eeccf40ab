use Rattle.std.proofs.Common.{arith}
use Rattle.std.proofs.lemmas.Result.{IfOk-weaker}
use Rattle.ipld_paths.proofs.item.copy_in.Goals as goal

pub returns-then-codec-eq-DAG_PB : goal.returns-then-codec-eq-DAG_PB
returns-then-codec-eq-DAG_PB c = IfOk-weaker c.part_of_node.result _ _ (λ r given block read. given c.args.name.now block (omega (arith, c.codec.ensures, c.if-codec-eq-DAG_PB.true)) read) c.part_of_node.ensures
