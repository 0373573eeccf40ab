use Rattle.std.proofs.Common.{length, ap, arith}
use Rattle.dagcbor_core.specs.Head.{head}
use Rattle.dag_pb_model.proofs.Measuring.{total_length}
use Rattle.dag_pb_model.proofs.measure.Measure.total.Goals as goal

pub returns : goal.returns
returns c parts h =
    omega (arith, c.requires, total_length c.args.self.now parts h, c.min.ensures, c.head_length.ensures.length 5, ap (λ n. length (head 5 n)) c.entries.ensures, c.string_length.ensures.length 3, c.head_length-2.ensures.length 4, c.data_length.ensures.length)
