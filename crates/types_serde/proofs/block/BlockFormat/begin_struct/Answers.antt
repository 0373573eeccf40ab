use Rattle.std.proofs.Common.{inl}
use Rattle.types_serde.proofs.block.BlockFormat.begin_struct.Goals as goal

pub returns : goal.returns
returns c = inl tt
