use Rattle.std.proofs.Common.{◌≡◌, ◌++◌, length}
use Rattle.text_cid.specs.Rfc4648.{text_in_groups}
use Rattle.text_cid.proofs.groups.push_32.Given as goal

abbrev pub invariant-loop-five : goal.invariant-loop-five
invariant-loop-five l = l.out.items ++ text_in_groups 5 l.symbols l.rest ≡ l.fn.out.items ++ text_in_groups 5 l.symbols l.bytes

abbrev pub decreases-loop-five : goal.decreases-loop-five
decreases-loop-five l = length l.rest
