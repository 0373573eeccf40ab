use Rattle.std.proofs.Common.{◌≡◌, ◌+◌, ◌≤◌, length}
use Rattle.ipld_tree.specs.Tree.{Tree}
use Rattle.ipld_tree.specs.Spelling.{IsSpelling}
use Rattle.abi_calls.proofs.Tapes.{Told}
use Rattle.abi_calls.proofs.Standing.{Stood}
use Rattle.abi_calls.proofs.tape.put_tokens.Given as goal

abbrev pub invariant-loop-token : goal.invariant-loop-token
invariant-loop-token g l = record {
  fits : l.count + length l.rest ≤ length l.bytes;
  same_length : length l.tape ≡ length l.initial.tape;
  stood : Stood (g.T.TapeEntry.made l.bytes) (length l.bytes) l.bytes l.rest l.initial.tape l.tape l.count;
  told : (t : Tree) → IsSpelling l.bytes t → Told (g.T.TapeEntry.made l.bytes) (length l.bytes) t l.rest l.initial.tape l.tape l.count;
}

abbrev pub decreases-loop-token : goal.decreases-loop-token
decreases-loop-token g l = length l.rest
