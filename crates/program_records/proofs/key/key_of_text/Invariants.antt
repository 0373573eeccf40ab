use Rattle.std.proofs.Common.{◌-◌, ◌≤◌, length}
use Rattle.program_records.proofs.Spelled.{ReadsKey}
use Rattle.program_records.proofs.key.key_of_text.Given as goal

abbrev pub invariant-loop-at : goal.invariant-loop-at
invariant-loop-at l = record {
  bound : l.at ≤ length l.text;
  reads : ReadsKey l.text l.key.items l.at;
}

abbrev pub decreases-loop-at : goal.decreases-loop-at
decreases-loop-at l = length l.text - l.at
