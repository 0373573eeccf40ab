use Rattle.std.proofs.Common.{◌≡◌, codes}
use Rattle.dagcbor_write.proofs.Messages.{first_told, left_unsent}
use Rattle.dagcbor_write.proofs.types.leaves.U128Serialize.serialize.Goals as goal

pub returns-clause-told : goal.returns-clause-told
returns-clause-told g c = first_told (λ m. m ≡ codes "Unsigned integer must be within [0, u64::MAX] range") (λ m. c.serialize_u128.new.self ≡ c.args.ser.now) _ c.serialize_u128.ensures.message

pub returns-clause-unsent : goal.returns-clause-unsent
returns-clause-unsent g c h = left_unsent g.W.Write.written (λ m. m ≡ codes "Unsigned integer must be within [0, u64::MAX] range") c.args.ser.now c.serialize_u128.new.self _ c.serialize_u128.ensures.message
