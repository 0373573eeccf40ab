use Rattle.std.proofs.Common.{refl, sym}
use Rattle.ipld_paths.specs.Paths.{segments}
use Rattle.ipld_links.specs.Reaching.{stored_in}
use Rattle.program_parts.specs.declared.file_names.NamesEnd.{NamesEnd}
use Rattle.program_parts.proofs.Paths.{ends_here}
use Rattle.program_parts.proofs.file_names.find_named.Goals as goal

pub returns-in-Err : goal.returns-in-Err
returns-in-Err c =
    let end : NamesEnd = record { block = c.loop-name.block; name = c.in-Some.name; cause = c.in-Err.cause } in
    let stored = stored_in c.args.blocks.now in
    ends_here stored c.args.root.now c.loop-name.block (segments c.args.path.now) (segments c.loop-name.left.now) (segments c.in-Some.more.now) end c.in-Some.ensures.first refl (c.in-Err.ensures stored (sym c.stored_bytes.ensures)) c.loop-name.invariant.1
