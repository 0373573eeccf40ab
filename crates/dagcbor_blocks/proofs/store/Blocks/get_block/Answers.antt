use Rattle.std.proofs.Common.{sym}
use Rattle.dagcbor_blocks.proofs.Keeping.{block_found, no_block_found, digest_of_found}
use Rattle.dagcbor_blocks.proofs.store.Blocks.get_block.Goals as goal

pub returns-in-Some : goal.returns-in-Some
returns-in-Some c =
    let found = sym c.in-Some.ensures.value in
    rw c.as_slice.ensures.value (block_found c.args.name.now c.args.self.now.blocks.entries c.in-Some.block.now found, digest_of_found c.args.name.now c.args.self.now.blocks.entries c.in-Some.block.now found c.args.self.now.sound)

pub returns-in-None : goal.returns-in-None
returns-in-None c = no_block_found c.args.name.now c.args.self.now.blocks.entries (sym c.in-None.ensures.value)
