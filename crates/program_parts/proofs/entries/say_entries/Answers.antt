use Rattle.std.proofs.Common.{subst, sym}
use Rattle.ipld_paths.specs.Paths.{segments}
use Rattle.ipld_links.specs.Reaching.{stored_in}
use Rattle.program_parts.specs.Entries.{IsListing}
use Rattle.program_parts.proofs.Saying.{both_said}
use Rattle.program_parts.proofs.entries.say_entries.Goals as goal

pub returns : goal.returns
returns g c =
    let is = IsListing (stored_in c.args.blocks.now) c.args.root.now (segments c.args.path.now) in
    both_said is c.in_ok-said.said.0.items c.deref.result.now c.in_ok-said.said.1 _ _ c.say_both.result _ _ (subst (is c.in_ok-said.said.1 c.in_ok-said.said.0.items) (sym c.deref.ensures.value) c.in_ok-said.ensures) c.say_both.ensures
