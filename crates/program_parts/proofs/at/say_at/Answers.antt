use Rattle.std.proofs.Common.{inr, subst}
use Rattle.ipld_links.specs.Reaching.{stored_in}
use Rattle.ipld_paths.specs.Paths.{segments}
use Rattle.ipld_paths.specs.Resolving.{readable_bytes}
use Rattle.program_parts.proofs.Ending.{end_told, shown_at}
use Rattle.program_parts.specs.Shown.{IsShown}
use Rattle.program_parts.proofs.Saying.{both_of}
use Rattle.program_parts.proofs.at.say_at.Goals as goal

pub returns-in-Some : goal.returns-in-Some
returns-in-Some g c = both_of _ _ _ _ c.say_shown.result _ _ (λ well said told k. shown_at readable_bytes (stored_in c.args.blocks.now) c.args.root.now (segments c.args.path.now) c.in-Ok.resolved.end c.in-Some.item ((rw c.in-Some.is at c.in_ok-item.ensures) c.args.root.now (segments c.args.path.now) c.in-Ok.ensures) well said told (subst (λ b. IsShown b well said told) c.bytes.ensures k)) c.say_shown.ensures

pub returns-in-None : goal.returns-in-None
returns-in-None g c = both_of _ _ _ _ c.say_end.result _ _ (λ well said told k. inr (end_told readable_bytes (stored_in c.args.blocks.now) c.args.root.now (segments c.args.path.now) c.in-Ok.resolved c.in-Ok.ensures ((rw c.in-None.is at c.in_ok-item.ensures) c.args.root.now (segments c.args.path.now) c.in-Ok.ensures) well said told k)) c.say_end.ensures
