use Rattle.std.proofs.Common.{Some, length}
use Rattle.dagcbor_heads.proofs.Writing.{Writes_exit, Writes_then}
use Rattle.ipld_tree.specs.Cid.{varint}
use Rattle.files_car.proofs.push.push_counted.Goals as goal

pub returns-in_err-push_length-clause-written : goal.returns-in_err-push_length-clause-written
returns-in_err-push_length-clause-written g c =
    Writes_exit (Some (varint (length c.args.bytes.now))) (Some c.args.bytes.now) (g.W.Write.written c.args.writer.now) (g.W.Write.written c.push_length.new.writer) _ _ c.from_residual.ensures.1 c.in_err-push_length.ensures.written

pub returns-clause-written : goal.returns-clause-written
returns-clause-written g c =
    Writes_then (Some (varint (length c.args.bytes.now))) (Some c.args.bytes.now) (g.W.Write.written c.args.writer.now) (g.W.Write.written c.push_length.new.writer) (g.W.Write.written c.push.new.self) _
    c.in_ok-push_length.ensures.written c.push.ensures.written
