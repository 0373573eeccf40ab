use Rattle.std.proofs.Common.{inr}
use Rattle.dagcbor_heads.proofs.Writing.{Writes_then, Writes_exit}
use Rattle.dagcbor_write.proofs.Messages.{message_tells}
use Rattle.types_schema.specs.Parts.{part_message}
use Rattle.types_schema.proofs.PartRows.{part_exit}
use Rattle.types_schema.proofs.part_row.Tuple2PartPartRow.write_each.Goals as goal

pub returns-in_err-serialize-clause-written : goal.returns-in_err-serialize-clause-written
returns-in_err-serialize-clause-written g c = Writes_exit _ _ _ _ _ _ c.from_residual.ensures.1 c.in_err-serialize.ensures.written

pub returns-clause-written : goal.returns-clause-written
returns-clause-written g c = Writes_then _ _ _ _ _ _ c.in_ok-serialize.ensures.written c.write_each.ensures.written

pub returns-in_err-serialize-clause-told : goal.returns-in_err-serialize-clause-told
returns-in_err-serialize-clause-told g c = part_exit g.T.Serialize.tree g.T.Serialize.message (g.L.PartRow.message c.args.self.1) _ (g.W.Write.written c.args.ser.now) (g.W.Write.written c.serialize.new.ser) _ _ c.from_residual.ensures.1 c.in_err-serialize.ensures.written c.in_err-serialize.ensures.told

pub returns-clause-told : goal.returns-clause-told
returns-clause-told g c = message_tells (g.L.PartRow.message c.args.self.1) (part_message g.T.Serialize.tree g.T.Serialize.message (g.L.PartRow.message c.args.self.1) c.args.self.0.0.now) _ (λ m k. inr k) c.write_each.ensures.told
