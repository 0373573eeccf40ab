use Rattle.std.proofs.lemmas.Result.{MatchResult-weaker}
use Rattle.ipld_paths.proofs.resolution.resolve_step.Goals as goal

pub returns-in-Some : goal.returns-in-Some
returns-in-Some c = MatchResult-weaker c.step_in.result c.step_in.ensures (λ r step all is. step all (c.in-Some.ensures all is)) (λ _ has all is. has all (c.in-Some.ensures all is))
