use Rattle.std.proofs.Common.{map, vec_len}
use Rattle.files_unix_fs.specs.Reading.{asked}
use Rattle.files_unix_fs.proofs.Stacks.{SameWhole}
use Rattle.files_unix_fs.proofs.reader.push_all.Given as goal

abbrev pub invariant-loop-last : goal.invariant-loop-last
invariant-loop-last l = SameWhole (map asked l.left.items) (map asked l.wanted.items) (map asked l.fn.first.items) (map asked l.initial.wanted.items)

abbrev pub decreases-loop-last : goal.decreases-loop-last
decreases-loop-last l = vec_len l.left
