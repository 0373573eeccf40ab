use Rattle.std.proofs.Common.{◌∙◌}
use Rattle.atproto_mst.specs.Levels.{level_items, link_names}
use Rattle.atproto_mst.proofs.Opening.{drops_all}
use Rattle.atproto_mst.proofs.skipping.dropped_of.Goals as goal

pub returns : goal.returns
returns c =
    drops_all (link_names (level_items c.args.before.now)) (link_names (level_items c.args.after.now)) c.deref.result.now c.deref-2.result.now c.args.both c.common_names.result c.if-not-both.false
    (c.deref.ensures.value ∙ c.in_ok-names.ensures) (c.deref-2.ensures.value ∙ c.in_ok-others.ensures) c.common_names.ensures
