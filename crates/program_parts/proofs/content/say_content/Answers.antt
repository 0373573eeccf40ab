use Rattle.std.proofs.Common.{map}
use Rattle.std.proofs.lemmas.Result.{err_from_is_err_and}
use Rattle.ipld_links.specs.Reaching.{stored_in}
use Rattle.files_unix_fs.specs.Reading.{asked}
use Rattle.program_shared.specs.declared.fault.ToolError.TheVariants.{OutOfMemory}
use Rattle.program_parts.proofs.Contents.{content_not_begun, content_begun, content_on, content_broken, content_endless}
use Rattle.program_parts.proofs.content.say_content.Goals as goal

pub returns-in_err-reader : goal.returns-in_err-reader
returns-in_err-reader g c =
    let p = err_from_is_err_and c.from_residual.result c.from_residual.ensures.1 in
    rw p.1 (content_not_begun (stored_in c.args.blocks.now) c.args.root.now (g.W.Write.contents c.args.output.now) (g.V.Write.contents c.args.errors.now) p.0)

pub loop-count-init : goal.loop-count-init
loop-count-init g c = content_begun (stored_in c.args.blocks.now) c.args.root.now (map asked c.in_ok-reader.reader.wanted.items) (g.W.Write.contents c.args.output.now) (g.V.Write.contents c.args.errors.now) (c.in_ok-reader.ensures (stored_in c.args.blocks.now))

pub returns-in_err-well : goal.returns-in_err-well
returns-in_err-well g c =
    let p = err_from_is_err_and c.from_residual-in_err-well.result c.from_residual-in_err-well.ensures.1 in
    rw p.1 (content_broken (stored_in c.args.blocks.now) c.args.root.now (map asked c.loop-count.reader.wanted.items) (map asked c.say_next.new.reader.wanted.items) p.0 (g.W.Write.contents c.args.output.now) (g.V.Write.contents c.args.errors.now) (g.W.Write.contents c.loop-count.output) (g.V.Write.contents c.loop-count.errors) (g.W.Write.contents c.say_next.new.output) (g.V.Write.contents c.say_next.new.errors) c.loop-count.invariant c.in_err-well.ensures)

pub loop-count-preserved : goal.loop-count-preserved
loop-count-preserved g c = content_on (stored_in c.args.blocks.now) c.args.root.now (map asked c.loop-count.reader.wanted.items) (map asked c.say_next.new.reader.wanted.items) (g.W.Write.contents c.args.output.now) (g.V.Write.contents c.args.errors.now) (g.W.Write.contents c.loop-count.output) (g.V.Write.contents c.loop-count.errors) (g.W.Write.contents c.say_next.new.output) (g.V.Write.contents c.say_next.new.errors) c.loop-count.invariant (rw c.in_default.is at c.in_ok-well.ensures)

pub returns : goal.returns
returns g c = content_endless (stored_in c.args.blocks.now) c.args.root.now (map asked c.loop-count.reader.wanted.items) OutOfMemory (g.W.Write.contents c.args.output.now) (g.V.Write.contents c.args.errors.now) (g.W.Write.contents c.loop-count.output) (g.V.Write.contents c.loop-count.errors) c.loop-count.invariant
