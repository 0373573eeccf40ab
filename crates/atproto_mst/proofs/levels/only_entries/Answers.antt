use Rattle.std.proofs.Common.{rules}
use Rattle.atproto_mst.proofs.Opening.{none_there, entries_next}
use Rattle.atproto_mst.proofs.levels.only_entries.Goals as goal

pub loop-held-preserved : goal.loop-held-preserved
loop-held-preserved c =
    entries_next c.loop-held.yielded c.in-Some.held c.loop-held.all.items c.push_reserved.new.self.items c.loop-held.invariant
    (none_there c.in-Some.held.after c.is_some-in-loop-held.result c.if-is_some-2.false c.is_some-in-loop-held.ensures) (search rules)
