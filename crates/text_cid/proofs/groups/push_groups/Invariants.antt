use Rattle.std.proofs.Common.{◌+◌, ◌<◌, ◌-◌, ◌++◌, take, flat_map}
use Rattle.text_cid.specs.Rfc4648.{bits}
use Rattle.text_cid.proofs.Grouping.{IsGrouped}
use Rattle.text_cid.proofs.groups.push_groups.Given as goal

abbrev pub invariant-loop-byte : goal.invariant-loop-byte
invariant-loop-byte l = IsGrouped l.width l.symbols l.fn.out.items l.out.items (flat_map (bits 8) (take l.byte-index l.bytes)) l.held l.rest × (l.held < l.width)

abbrev pub invariant-loop-held : goal.invariant-loop-held
invariant-loop-held l = IsGrouped l.width l.symbols l.fn.out.items l.out.items (flat_map (bits 8) (take l.byte-index l.bytes) ++ bits 8 l.byte) l.held l.rest × (l.held < l.width + 8)

abbrev pub decreases-loop-held : goal.decreases-loop-held
decreases-loop-held l = l.held + 1 - l.width
