use Rattle.std.proofs.Common.{◌≡◌, ◌+◌, ◌++◌, length-append, ap, length, arith, ◌∙◌}
use Rattle.ipld_tree.specs.Cid.{cid_bytes}
use Rattle.files_car.specs.Car.{Section}
use Rattle.files_car.proofs.Pushing.{length_out, length_refused, name_refused, block_pushed}
use Rattle.files_car.proofs.push.push_section.Goals as goal

pub returns-in_err-push_length-clause-written : goal.returns-in_err-push_length-clause-written
returns-in_err-push_length-clause-written g c =
    let counts : c.len.result + length c.args.block.now ≡ length (cid_bytes c.args.cid.now ++ c.args.block.now) = omega (arith, ap length c.write_bytes.ensures.bytes, c.len.ensures.value, length-append (cid_bytes c.args.cid.now) c.args.block.now) in
    length_refused (c.args.cid.now, c.args.block.now) (c.len.result + length c.args.block.now) (g.W.Write.written c.args.writer.now) (g.W.Write.written c.push_length.new.writer) _ _ counts c.from_residual.ensures.1 c.in_err-push_length.ensures.written

pub returns-in_err-push-clause-written : goal.returns-in_err-push-clause-written
returns-in_err-push-clause-written g c =
    let s : Section = (c.args.cid.now, c.args.block.now) in
    let counts : c.len.result + length c.args.block.now ≡ length (cid_bytes c.args.cid.now ++ c.args.block.now) = omega (arith, ap length c.write_bytes.ensures.bytes, c.len.ensures.value, length-append (cid_bytes c.args.cid.now) c.args.block.now) in
    let out = length_out s (c.len.result + length c.args.block.now) (g.W.Write.written c.args.writer.now) (g.W.Write.written c.push_length.new.writer) counts c.in_ok-push_length.ensures.written in
    name_refused s c.deref.result.now (g.W.Write.written c.args.writer.now) (g.W.Write.written c.push_length.new.writer) (g.W.Write.written c.push.new.self) _ _ (c.deref.ensures.0 ∙ c.write_bytes.ensures.bytes) out
    c.from_residual-in_err-push.ensures.1 c.in_err-push.ensures.written

pub returns-clause-written : goal.returns-clause-written
returns-clause-written g c =
    let s : Section = (c.args.cid.now, c.args.block.now) in
    let counts : c.len.result + length c.args.block.now ≡ length (cid_bytes c.args.cid.now ++ c.args.block.now) = omega (arith, ap length c.write_bytes.ensures.bytes, c.len.ensures.value, length-append (cid_bytes c.args.cid.now) c.args.block.now) in
    let out = length_out s (c.len.result + length c.args.block.now) (g.W.Write.written c.args.writer.now) (g.W.Write.written c.push_length.new.writer) counts c.in_ok-push_length.ensures.written in
    block_pushed s c.deref.result.now (g.W.Write.written c.args.writer.now) (g.W.Write.written c.push_length.new.writer) (g.W.Write.written c.push.new.self) (g.W.Write.written c.push-2.new.self) _
    (c.deref.ensures.0 ∙ c.write_bytes.ensures.bytes) out c.in_ok-push.ensures.written c.push-2.ensures.written
