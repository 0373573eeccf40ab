use Rattle.std.proofs.Common.{◌≡◌, map, take}
use Rattle.files_index.specs.Judging.{multihash_of, listed}
use Rattle.files_index.proofs.judging.listed_names.Given as goal

abbrev pub invariant-loop-section : goal.invariant-loop-section
invariant-loop-section l = l.names.items ≡ map multihash_of (listed l.format l.entries (take l.section-index l.sections))
