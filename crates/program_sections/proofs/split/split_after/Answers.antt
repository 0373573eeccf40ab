use Rattle.std.proofs.Common.{subst}
use Rattle.program_sections.specs.Splitting.{making}
use Rattle.program_sections.specs.SplitSteps.{SplitsEnded}
use Rattle.program_sections.proofs.Ending.{split_told}
use Rattle.program_sections.proofs.split.split_after.Goals as goal

pub returns : goal.returns
returns g c = λ start b h l.
    let files = c.split_sections-ended.new.files in
    let made = making (g.N.NewFiles.whole c.args.files.now) (g.N.NewFiles.whole files) (g.N.NewFiles.has files) in
    split_told c.args.asked.now b made _ c.split_sections-ended.result c.tell_split.result _
    (subst (λ a. SplitsEnded a b c.split_sections-ended.result made) c.in_ok-plan.ensures.1 (c.split_sections-ended.ensures start c.args.roots.now b h l c.in_ok-plan.ensures.0))
    c.tell_split.ensures
