use Rattle.std.proofs.Common.{◌≡◌, take, flat_map}
use Rattle.atproto_mst.specs.Entries.{entries}
use Rattle.program_records.specs.Records.{record_line}
use Rattle.program_records.proofs.records.record_lines.Given as goal

abbrev pub invariant-loop-found : goal.invariant-loop-found
invariant-loop-found l = l.lines.items ≡ flat_map record_line (entries (take l.found-index l.records))
