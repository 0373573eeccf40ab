use Rattle.std.proofs.Common.{◌+◌, sym, subst, arith}
use Rattle.dagcbor_heads.specs.Written.{WritesAtOnce}
use Rattle.dagcbor_write.proofs.Parts.{link_bytes}
use Rattle.dagcbor_write.proofs.serializer.link_at_once.Goals as goal

pub returns-then-count-ge24-clause-written : goal.returns-then-count-ge24-clause-written
returns-then-count-ge24-clause-written g c =
    subst (λ x. WritesAtOnce x (g.W.Write.written c.args.writer.now) (g.W.Write.written c.push_at_once.new.self) c.push_at_once.result)
    (sym (link_bytes c.args.cid.now.items (c.len.result + 1) (omega arith) (omega arith) (omega arith)))
    (rw c.as_slice.ensures.value at c.push_at_once.ensures)
