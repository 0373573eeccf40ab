use Rattle.std.proofs.Common.{◌≡◌, reverse, take}
use Rattle.text_cid.proofs.base58.reversed.Given as goal

abbrev pub invariant-loop-place : goal.invariant-loop-place
invariant-loop-place l = l.out.items ≡ take l.place (reverse l.digits)
