use Rattle.std.proofs.Common.{rules, ◌≡◌, ◌∙◌, ap, length}
use Rattle.program_sections.specs.SplitSteps.{splitting_work}
use Rattle.program_sections.proofs.Dividing.{put_so}
use Rattle.program_sections.proofs.part.SplittingSectionSink.take.Goals as goal

pub returns : goal.returns
returns g c =
    let work = splitting_work g.N.NewFiles.whole g.N.NewFiles.has g.F.Write.contents in
    let whole : c.len.result ≡ length c.in_ok-bytes.bytes.items = search rules in
    put_so (c.args.section.now.cid, c.args.section.now.block.now) c.len.result c.deref.result.now (work c.args.self.now) (work c.make_room.new.self) (work c.put.new.self) c.put.result
    (whole ∙ ap length c.in_ok-bytes.ensures) (c.deref.ensures.value ∙ c.in_ok-bytes.ensures) c.in_ok-make_room.ensures c.put.ensures
