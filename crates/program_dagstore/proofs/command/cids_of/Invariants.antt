use Rattle.std.proofs.Common.{map, string_bytes, take}
use Rattle.program_dagstore.specs.Commands.{AreTextsOf}
use Rattle.program_dagstore.proofs.command.cids_of.Given as goal

abbrev pub invariant-loop-word : goal.invariant-loop-word
invariant-loop-word l = AreTextsOf (map string_bytes (take l.word-index l.words)) l.names.items
