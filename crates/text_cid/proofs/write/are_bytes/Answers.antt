use Rattle.std.proofs.Common.{◌<◌}
use Rattle.text_cid.proofs.Bits.{all_from_each}
use Rattle.text_cid.proofs.write.are_bytes.Goals as goal

pub returns : goal.returns
returns c = all_from_each (λ b. b < 256) c.args.bytes.now (λ i. (c.type_inv.bytes i).fits)
