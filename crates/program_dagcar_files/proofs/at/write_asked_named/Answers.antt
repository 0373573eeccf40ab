use Rattle.std.proofs.Common.{IfSome, subst}
use Rattle.ipld_paths.specs.Paths.{segments}
use Rattle.ipld_links.specs.Reaching.{stored_in}
use Rattle.program_parts.specs.Lines.{SaysBoth}
use Rattle.program_parts.specs.Paths.{path_part}
use Rattle.program_index.specs.Layouts.{HasIndex}
use Rattle.program_index.specs.Ways.{LeavesIndex}
use Rattle.program_dagcar_files.specs.PathAnswers.{IsAnswerNamed}
use Rattle.program_dagcar_files.proofs.Asking.{named_bound, named_past, named_plain}
use Rattle.program_dagcar_files.proofs.at.write_asked_named.Goals as goal

pub returns-in-Blocks : goal.returns-in-Blocks
returns-in-Blocks g c =
    let way = rw c.in-Blocks.is at c.in_ok-blocks.ensures in
    subst (λ p. IfSome (g.S.ReadAt.bytes c.args.source.now) (λ b. SaysBoth (IsAnswerNamed c.args.asked c.args.root.now (segments p) b) (g.W.Write.contents c.args.output.now) (g.V.Write.contents c.args.errors.now) c.say_asked.result (g.W.Write.contents c.say_asked.new.output) (g.V.Write.contents c.say_asked.new.errors))) c.split_path.ensures.path
    (named_bound c.args.asked c.args.root.now (segments c.split_path.result.1.now) (g.S.ReadAt.bytes c.args.source.now) (g.W.Write.contents c.args.output.now) (g.V.Write.contents c.args.errors.now) (stored_in c.in-Blocks.blocks) c.say_asked.result (g.W.Write.contents c.say_asked.new.output) (g.V.Write.contents c.say_asked.new.errors) way.0 way.1 c.say_asked.ensures)

pub returns-in-NoEntry : goal.returns-in-NoEntry
returns-in-NoEntry g c =
    let way = rw c.in-NoEntry.is at c.in_ok-blocks.ensures in
    named_past c.args.asked c.args.root.now (segments (path_part c.args.text.now)) (g.S.ReadAt.bytes c.args.source.now) (g.W.Write.contents c.args.output.now) (g.V.Write.contents c.args.errors.now) c.write_past.result (g.W.Write.contents c.write_past.new.output) (g.V.Write.contents c.write_past.new.errors)
    (subst (λ p. IfSome (g.S.ReadAt.bytes c.args.source.now) (λ b. HasIndex b × LeavesIndex b c.args.root.now (segments p))) c.split_path.ensures.path way) c.write_past.ensures

pub returns-in-NoIndex : goal.returns-in-NoIndex
returns-in-NoIndex g c = named_plain c.args.asked c.args.root.now (segments (path_part c.args.text.now)) (g.S.ReadAt.bytes c.args.source.now) (g.W.Write.contents c.args.output.now) (g.V.Write.contents c.args.errors.now) c.write_whole.result (g.W.Write.contents c.write_whole.new.output) (g.V.Write.contents c.write_whole.new.errors) (rw c.in-NoIndex.is at c.in_ok-blocks.ensures) c.write_whole.ensures
