use Rattle.std.proofs.Common.{[], true, sym, subst}
use Rattle.ipld_links.specs.Reaching.{stored_in}
use Rattle.ipld_paths.specs.Paths.{segments}
use Rattle.ipld_paths.specs.Resolving.{AreOnTheWay}
use Rattle.program_parts.proofs.Saying.{both_said, both_of}
use Rattle.program_parts.specs.Proof.{IsProofOf}
use Rattle.program_parts.proofs.Ending.{proof_given, undecided_told}
use Rattle.program_parts.proofs.proof.say_proof.Goals as goal

pub returns-then-not-is_decided : goal.returns-then-not-is_decided
returns-then-not-is_decided g c = both_of _ _ _ _ c.say_end.result _ _ (undecided_told (stored_in c.args.blocks.now) c.args.root.now (segments c.args.path.now) c.in_ok-way.way.resolved c.in_ok-way.ensures.resolved c.if-not-is_decided.ensures) c.say_end.ensures

pub returns : goal.returns
returns g c =
    let way = subst (AreOnTheWay (stored_in c.args.blocks.now) c.args.root.now (segments c.args.path.now)) (sym c.deref.ensures.value) c.in_ok-way.ensures.names in
    both_said (IsProofOf (stored_in c.args.blocks.now) c.args.root.now (segments c.args.path.now)) c.in_ok-file.file.items [] true _ _ c.say_both.result _ _ (proof_given (stored_in c.args.blocks.now) c.args.root.now (segments c.args.path.now) c.in_ok-way.way.resolved c.in_ok-file.file.items c.in_ok-way.ensures.resolved c.if-not-is_decided.ensures (c.in_ok-file.ensures (segments c.args.path.now) way)) c.say_both.ensures
