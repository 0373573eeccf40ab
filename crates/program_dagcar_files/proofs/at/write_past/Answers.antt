use Rattle.std.proofs.Common.{rules, sym, ◌∙◌}
use Rattle.ipld_paths.specs.Paths.{segments}
use Rattle.program_parts.specs.Paths.{path_part}
use Rattle.program_parts.proofs.Known.{if_some}
use Rattle.program_dagcar_files.proofs.Asking.{past_told, past_not, known_broken, known_half}
use Rattle.program_dagcar_files.proofs.at.write_past.Goals as goal

pub returns-in_err-well : goal.returns-in_err-well
returns-in_err-well g c = let failed = known_broken c.args.asked c.args.root.now (segments (path_part c.args.text.now)) (g.S.ReadAt.bytes c.args.source.now) (g.W.Write.contents c.args.output.now) (g.V.Write.contents c.args.errors.now) (g.W.Write.contents c.write_whole.new.output) (g.V.Write.contents c.write_whole.new.errors) c.in_err-well.field-0.0 c.in_err-well.ensures in search (failed, rules)

pub returns-in_err-write_all : goal.returns-in_err-write_all
returns-in_err-write_all g c =
    let w = c.in_err-write_all.ensures.written in
    let failed = known_half c.args.asked c.args.root.now (segments (path_part c.args.text.now)) (g.S.ReadAt.bytes c.args.source.now) (g.W.Write.contents c.args.output.now) (g.V.Write.contents c.args.errors.now) (g.W.Write.contents c.write_whole.new.output) (g.V.Write.contents c.write_whole.new.errors) (g.V.Write.contents c.write_all.new.writer) c.in_ok-well.well c.in_err-write_all.field-0.0 w.0 w.1 c.if-well.true (sym c.as_bytes.ensures.value ∙ w.2) c.in_err-write_all.ensures.fault w.3 c.in_ok-well.ensures in
    search (failed, rules)

pub returns-in_ok-write_all : goal.returns-in_ok-write_all
returns-in_ok-write_all g c =
    let w = c.in_ok-write_all.ensures.written in
    if_some (g.S.ReadAt.bytes c.args.source.now) c.in_ok-well.ensures (λ b h. past_told c.args.asked c.args.root.now (segments (path_part c.args.text.now)) b (g.W.Write.contents c.args.output.now) (g.V.Write.contents c.args.errors.now) (g.W.Write.contents c.write_whole.new.output) (g.V.Write.contents c.write_whole.new.errors) (g.V.Write.contents c.write_all.new.writer) c.in_ok-well.well w.0 w.1 c.if-well.true (sym c.as_bytes.ensures.value ∙ w.2) w.4 w.3 h)

pub returns-else-well : goal.returns-else-well
returns-else-well g c = if_some (g.S.ReadAt.bytes c.args.source.now) c.in_ok-well.ensures (λ b h. past_not c.args.asked c.args.root.now (segments (path_part c.args.text.now)) b (g.W.Write.contents c.args.output.now) (g.V.Write.contents c.args.errors.now) (g.W.Write.contents c.write_whole.new.output) (g.V.Write.contents c.write_whole.new.errors) c.in_ok-well.well c.if-well.false h)
