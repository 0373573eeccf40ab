use Rattle.ipld_tree.proofs.VarintRead.{IsVarintRead}
use Rattle.ipld_tree.proofs.cid.split_varint.Given as goal

abbrev pub invariant-loop-place : goal.invariant-loop-place
invariant-loop-place l = IsVarintRead l.bytes l.place l.number l.unit
