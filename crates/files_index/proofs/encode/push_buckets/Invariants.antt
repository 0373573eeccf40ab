use Rattle.std.proofs.Common.{◌≡◌, ◌++◌, length, flat_map}
use Rattle.files_index.specs.Index.{bucket_bytes, runs, width_of}
use Rattle.files_index.proofs.encode.push_buckets.Given as goal

abbrev pub invariant-loop-front : goal.invariant-loop-front
invariant-loop-front l = l.out.items ++ flat_map bucket_bytes (runs width_of l.rest) ≡ l.initial.out.items ++ flat_map bucket_bytes (runs width_of l.entries)

abbrev pub decreases-loop-front : goal.decreases-loop-front
decreases-loop-front l = length l.rest
