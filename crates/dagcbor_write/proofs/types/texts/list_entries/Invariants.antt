use Rattle.dagcbor_write.proofs.Texts.{Listed-but}
use Rattle.dagcbor_write.proofs.types.texts.list_entries.Given as goal

abbrev pub invariant-loop-key : goal.invariant-loop-key
invariant-loop-key g l = Listed-but l.initial.key-iterator l.key-iterator l.row.items
