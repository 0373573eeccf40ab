use Rattle.std.proofs.Common.{refl, false}
use Rattle.files_unix_fs.specs.declared.entity.Entity.TheVariants.{Shard}
use Rattle.program_parts.proofs.Listing.{listed_under}
use Rattle.program_parts.proofs.entries.listed_of.Goals as goal

pub returns-in_ok-line-in-Shard : goal.returns-in_ok-line-in-Shard
returns-in_ok-line-in-Shard c = λ stored is.
    listed_under stored c.args.cid.now c.args.block.now Shard false c.new.result.items c.in_ok-line-in-Shard.line.items (rw c.in-Shard.is at is) (refl, c.new.ensures.items, c.in_ok-line-in-Shard.ensures)
