use Rattle.std.proofs.Common.{◌≡◌, ◌++◌, take, flat_map}
use Rattle.program_records.specs.Keys.{key_byte}
use Rattle.program_records.proofs.key.push_key.Given as goal

abbrev pub invariant-loop-byte : goal.invariant-loop-byte
invariant-loop-byte l = l.out.items ≡ l.fn.out.items ++ flat_map key_byte (take l.byte-index l.key)
