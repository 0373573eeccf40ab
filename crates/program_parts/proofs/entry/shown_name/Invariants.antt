use Rattle.std.proofs.Common.{◌≡◌, ◌∷◌, take, flat_map}
use Rattle.program_parts.specs.Entries.{shown_byte}
use Rattle.program_parts.proofs.entry.shown_name.Given as goal

abbrev pub invariant-loop-byte : goal.invariant-loop-byte
invariant-loop-byte l = l.out.items ≡ 32 ∷ flat_map shown_byte (take l.byte-index l.name)
