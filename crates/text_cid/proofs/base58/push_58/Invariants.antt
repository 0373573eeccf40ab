use Rattle.std.proofs.Common.{◌≡◌, ◌++◌, take, reverse, map, slice_index}
use Rattle.text_cid.specs.Base58.{symbols_58}
use Rattle.text_cid.proofs.base58.push_58.Given as goal

abbrev pub invariant-loop-place : goal.invariant-loop-place
invariant-loop-place l = l.out.items ≡ l.fn.out.items ++ map (slice_index symbols_58) (take l.place (reverse l.digits.items))
