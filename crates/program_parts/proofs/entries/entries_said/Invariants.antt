use Rattle.std.proofs.Common.{length}
use Rattle.ipld_links.specs.Reaching.{stored_in}
use Rattle.program_parts.specs.Entries.{KnowsWords}
use Rattle.program_parts.proofs.Listing.{IsListedTo}
use Rattle.program_parts.proofs.entries.entries_said.Given as goal

abbrev pub invariant-loop-link : goal.invariant-loop-link
invariant-loop-link l = KnowsWords (stored_in l.blocks) l.known × IsListedTo (stored_in l.blocks) l.block l.links l.well l.lines.items

abbrev pub decreases-loop-link : goal.decreases-loop-link
decreases-loop-link l = length l.links
