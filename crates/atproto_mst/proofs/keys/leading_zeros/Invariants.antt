use Rattle.std.proofs.Common.{◌≡◌, ◌+◌, ◌*◌, drop}
use Rattle.atproto_mst.specs.Keys.{zero_bits}
use Rattle.atproto_mst.proofs.keys.leading_zeros.Given as goal

abbrev pub invariant-loop-byte : goal.invariant-loop-byte
invariant-loop-byte l = record {
  zeros : l.zeros ≡ 8 * l.byte-index;
  rest : zero_bits l.digest ≡ l.zeros + zero_bits (drop l.byte-index l.digest);
}
