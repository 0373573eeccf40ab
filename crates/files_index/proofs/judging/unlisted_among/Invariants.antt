use Rattle.std.proofs.Common.{◌≡◌, take}
use Rattle.std.specs.List.{filter}
use Rattle.files_index.specs.Judging.{is_unlisted}
use Rattle.files_index.proofs.judging.unlisted_among.Given as goal

abbrev pub invariant-loop-section : goal.invariant-loop-section
invariant-loop-section l = l.out.items ≡ filter (is_unlisted l.names) (take l.section-index l.sections)
