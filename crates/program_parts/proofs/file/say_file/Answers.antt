use Rattle.std.proofs.Common.{inr, false, refl, ◌∙◌}
use Rattle.ipld_paths.specs.Paths.{segments}
use Rattle.ipld_links.specs.Reaching.{stored_in}
use Rattle.program_parts.specs.FileNames.{IsNoPath}
use Rattle.program_parts.proofs.Saying.{both_said}
use Rattle.program_parts.proofs.file.say_file.Goals as goal

pub returns-in_ok-line-in-Err : goal.returns-in_ok-line-in-Err
returns-in_ok-line-in-Err g c =
    let nothing = IsNoPath (stored_in c.args.blocks.now) c.args.root.now (segments c.args.path.now) in
    inr (both_said nothing c.new.result.items c.deref.result.now false _ _ c.say_both.result _ _ (c.in-Err.end, c.in-Err.ensures, refl, c.new.ensures.items, c.deref.ensures.value ∙ c.in_ok-line-in-Err.ensures) c.say_both.ensures)
