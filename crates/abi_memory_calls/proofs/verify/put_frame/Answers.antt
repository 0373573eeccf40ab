use Rattle.std.proofs.Common.{rules, sym, subst, to_z, of_z, w32}
use Rattle.abi_memory_calls.specs.Events.{IsJudged, IsFrameJudged}
use Rattle.abi_memory_calls.proofs.verify.put_frame.Goals as goal

pub returns-in-Commit : goal.returns-in-Commit
returns-in-Commit c =
    let code = to_z w32 (of_z w32 c.put_judged.result) in
    let judged : IsJudged c.in-Commit.commit c.args.known.now c.args.out.now c.put_judged.new.out c.put_judged.new.needed code = search rules in
    subst (λ f. IsFrameJudged f c.args.known.now c.args.out.now c.put_judged.new.out c.put_judged.new.needed code) (sym c.in-Commit.is) judged
