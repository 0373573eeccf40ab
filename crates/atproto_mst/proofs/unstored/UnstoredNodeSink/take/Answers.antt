use Rattle.std.proofs.Common.{sym, ap, ◌∙◌}
use Rattle.std.specs.Prelude.{is_some}
use Rattle.atproto_mst.proofs.Building.{on_ok_more}
use Rattle.atproto_mst.proofs.Keeping.{passed_over, handed_on}
use Rattle.atproto_mst.proofs.unstored.UnstoredNodeSink.take.Goals as goal

pub returns-in-Some-clause-taken : goal.returns-in-Some-clause-taken
returns-in-Some-clause-taken g c world before h = (
  h.0,
  passed_over g.S.NodeSink.holds g.S.NodeSink.refuses world.0 world.1.0 world.1.1 before (c.args.name, c.args.block.items) c.args.self.now.sink
      (ap (λ stored. is_some (stored c.args.name)) h.0 ∙ ap is_some (sym c.in-Some.ensures)) h.1,
)

pub returns-in-None-clause-taken : goal.returns-in-None-clause-taken
returns-in-None-clause-taken g c = on_ok_more c.take.result (λ t world before h. (
  h.0,
  handed_on g.S.NodeSink.holds g.S.NodeSink.refuses world.0 world.1.0 world.1.1 before (c.args.name, c.args.block.items) c.args.self.now.sink c.take.new.self
      (ap (λ stored. is_some (stored c.args.name)) h.0 ∙ ap is_some (sym c.in-None.ensures)) t h.1,
)) c.take.ensures.taken
