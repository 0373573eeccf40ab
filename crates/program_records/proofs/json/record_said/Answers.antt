use Rattle.std.proofs.Common.{ap, ◌∙◌}
use Rattle.ipld_links.specs.Reaching.{stored_in}
use Rattle.atproto_mst.specs.Entries.{entry_of}
use Rattle.program_records.specs.Json.{json_line}
use Rattle.program_records.proofs.AsJson.{is_shown, is_not_shown}
use Rattle.program_records.proofs.json.record_said.Goals as goal

pub returns-then-not-well : goal.returns-then-not-well
returns-then-not-well c = is_not_shown (stored_in c.args.blocks.now) (entry_of c.args.found.now) _ _ c.in_ok-text.text.items c.in_ok-text.told.items c.in_ok-told.told.items _ _ c.in_ok-text.ensures c.if-not-well.true c.in_ok-told.ensures c.told_alone.ensures

pub returns : goal.returns
returns c = is_shown (stored_in c.args.blocks.now) (entry_of c.args.found.now) _ c.in_ok-text.text.items _ c.in_ok-text.told.items c.in_ok-told.told.items c.in_ok-line.line.items c.pop-line_feed.result _ c.in_ok-text.ensures c.if-not-well.false c.in_ok-told.ensures c.in_ok-text.text.ok.0 c.pop-line_feed.ensures.items c.pop-line_feed.ensures.variant
    (c.in_ok-line.ensures ∙ ap (json_line (entry_of c.args.found.now)) c.deref.ensures.value)
