use Rattle.std.proofs.Common.{suc}
use Rattle.ipld_links.specs.Reaching.{stored_in}
use Rattle.atproto_mst.specs.Levels.{level_items}
use Rattle.atproto_mst.proofs.Leading.{BothLed}
use Rattle.atproto_mst.proofs.Sharing.{TellsOf}
use Rattle.atproto_mst.proofs.skipping.diff_levels.Given as goal

abbrev pub invariant-loop-round : goal.invariant-loop-round
invariant-loop-round l = record {
  led : BothLed (suc l.round) (stored_in l.blocks) l.old l.new (level_items l.before) (level_items l.after);
  tells : TellsOf (stored_in l.blocks) l.old l.new (level_items l.before) (level_items l.after);
}
