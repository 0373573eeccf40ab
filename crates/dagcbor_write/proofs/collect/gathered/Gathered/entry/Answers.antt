use Rattle.std.proofs.Common.{arith}
use Rattle.std.proofs.lemmas.List.{length-map}
use Rattle.dagcbor_write.specs.Spans.{entry_at}
use Rattle.dagcbor_write.proofs.Spans.{entry_is}
use Rattle.dagcbor_write.proofs.collect.gathered.Gathered.entry.Goals as goal

pub returns : goal.returns
returns c d =
    let inside = rw (← c.self.view_is) at c.requires in
    rw (c.deref.ensures.value, ← c.self.view_is) (entry_is _ c.self.inside.bytes.items c.self.inside.spans.items c.args.i c.index-span.result.now d (omega (arith, inside, length-map c.self.inside.spans.items (entry_at c.self.inside.bytes.items))) c.index-span.ensures c.self.invariant.0)
