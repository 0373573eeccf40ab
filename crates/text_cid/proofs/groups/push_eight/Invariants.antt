use Rattle.std.proofs.Common.{◌*◌, ◌-◌, take, flat_map}
use Rattle.text_cid.specs.Rfc4648.{bits}
use Rattle.text_cid.proofs.Grouping.{IsGrouped}
use Rattle.text_cid.proofs.groups.push_eight.Given as goal

abbrev pub invariant-loop-byte : goal.invariant-loop-byte
invariant-loop-byte l = IsGrouped 5 l.symbols l.fn.out.items l.fn.out.items (flat_map (bits 8) (take l.byte-index l.five)) (8 * l.byte-index) l.rest

abbrev pub invariant-loop-place : goal.invariant-loop-place
invariant-loop-place l = IsGrouped 5 l.symbols l.fn.out.items l.out.items (flat_map (bits 8) l.five) (40 - 5 * l.place) l.rest
