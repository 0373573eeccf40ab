use Rattle.abi_calls.proofs.CompactTokens.{ascii_told}
use Rattle.abi_calls.proofs.compact.is_ascii.Goals as goal

pub returns : goal.returns
returns c = ascii_told c.is_ascii.result c.args.bytes.now c.is_ascii.ensures.cases
