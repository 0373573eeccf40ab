use Rattle.std.proofs.Common.{sym}
use Rattle.ipld_links.specs.Reaching.{stored_in}
use Rattle.program_parts.specs.Entries.{IsListed}
use Rattle.program_parts.proofs.Listing.{directory_node, node_row, entries_listed}
use Rattle.program_parts.proofs.entries.listing_under.Goals as goal

pub entries_said-requires : goal.entries_said-requires
entries_said-requires c =
    let stored = stored_in c.args.blocks.now in
    let listed : IsListed stored c.args.cid.now c.in-Ok-Entries.field-0 = c.in-Ok-Entries.ensures stored (sym c.stored_bytes.ensures) in
    node_row c.in-Ok-Entries.block.now (directory_node stored c.args.cid.now c.in-Ok-Entries.block.now (rw c.in-Ok-Entries.field-0-is at listed))

pub returns-in-Ok-Whole : goal.returns-in-Ok-Whole
returns-in-Ok-Whole c =
    let stored = stored_in c.args.blocks.now in
    let listed : IsListed stored c.args.cid.now c.in-Ok-Whole.field-0 = c.in-Ok-Whole.ensures stored (sym c.stored_bytes.ensures) in
    rw c.in-Ok-Whole.field-0-is at listed

pub returns-in_ok-said-in-Ok-Entries : goal.returns-in_ok-said-in-Ok-Entries
returns-in_ok-said-in-Ok-Entries c =
    let stored = stored_in c.args.blocks.now in
    let listed : IsListed stored c.args.cid.now c.in-Ok-Entries.field-0 = c.in-Ok-Entries.ensures stored (sym c.stored_bytes.ensures) in
    let is = rw c.in-Ok-Entries.field-0-is at listed in
    let node = directory_node stored c.args.cid.now c.in-Ok-Entries.block.now is in
    entries_listed stored c.args.cid.now c.in-Ok-Entries.block.now node.0 c.in_ok-said-in-Ok-Entries.said.1 c.in_ok-said-in-Ok-Entries.said.0.items c.new.result.items is node.1 (c.in_ok-said-in-Ok-Entries.ensures node.0 node.1) c.new.ensures.items
