use Rattle.std.proofs.Common.{◌≡◌}
use Rattle.store_on_disk.proofs.lost.in_order.Given as goal

abbrev pub invariant-loop-key : goal.invariant-loop-key
invariant-loop-key l = l.list.items ≡ l.yielded
