use Rattle.std.proofs.Common.{◌≡◌, length, map}
use Rattle.std.specs.Vec.Iter.{into_iter_items, into_iter_len}
use Rattle.program_sections.specs.MergeSteps.{merging_work, place_of}
use Rattle.program_sections.proofs.Merging.{MergedSoFar}
use Rattle.program_sections.proofs.merge.merge_files.Given as goal

abbrev pub invariant-loop-file : goal.invariant-loop-file
invariant-loop-file g l = record {
  can_next : (goal.iterator-loop-file g).can_next l.file-iterator;
  is_finite : (goal.iterator-loop-file g).is_finite l.file-iterator;
  count : into_iter_len l.file-iterator ≡ length (into_iter_items l.file-iterator);
  merged : MergedSoFar (map (place_of g.R.Read.reading) l.fn.files.items) (merging_work g.W.Write.contents l.fn.merging) (map (place_of g.R.Read.reading) (into_iter_items l.file-iterator)) (merging_work g.W.Write.contents l.merging);
}
