use Rattle.std.proofs.Common.{arith}
use Rattle.atproto_events.proofs.Framing.{cut_item, item_within}
use Rattle.atproto_events.proofs.frame.split_item.Goals as goal

pub slice_bounds-result-count : goal.slice_bounds-result-count
slice_bounds-result-count c = omega (arith, item_within c.args.bytes.now c.in_ok-rest.rest.now c.in_ok-rest.ensures)

pub returns : goal.returns
returns c = (c.in_ok-rest.ensures, cut_item c.args.bytes.now c.in_ok-rest.rest.now c.in_ok-rest.ensures)
