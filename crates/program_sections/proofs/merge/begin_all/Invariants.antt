use Rattle.std.proofs.Common.{◌≡◌, ◌+◌, ◌<◌, ◌^◌, length, map}
use Rattle.std.specs.Vec.Iter.{into_iter_items, into_iter_len}
use Rattle.dagcbor_heads.specs.Inputs.{input_reading}
use Rattle.program_sections.proofs.Merging.{BegunSoFar}
use Rattle.program_sections.proofs.merge.begin_all.Given as goal

abbrev pub invariant-loop-input : goal.invariant-loop-input
invariant-loop-input g l = record {
  can_next : (goal.iterator-loop-input g).can_next l.input-iterator;
  is_finite : (goal.iterator-loop-input g).is_finite l.input-iterator;
  count : into_iter_len l.input-iterator ≡ length (into_iter_items l.input-iterator);
  room : l.number + into_iter_len l.input-iterator < 2 ^ 64;
  begun : BegunSoFar g.R.Read.reading (map (input_reading g.R.Read.reading) l.fn.inputs.items) (map (input_reading g.R.Read.reading) (into_iter_items l.input-iterator)) l.number l.begun;
}
