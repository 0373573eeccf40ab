use Rattle.std.proofs.Common.{map, sym, ◌∙◌, Ok, Err}
use Rattle.std.proofs.lemmas.Result.{err_from_is_err_and}
use Rattle.files_unix_fs.specs.Reading.{asked}
use Rattle.program_parts.specs.Content.{SaysNext}
use Rattle.program_dagstore.specs.declared.fault.Fault.{Fault}
use Rattle.program_dagstore.specs.declared.fault.Fault.TheVariants as fault
use Rattle.program_dagstore.proofs.Contents.{got_nothing, got_one, next_refused}
use Rattle.program_dagstore.proofs.file.write_block.Goals as goal

pub returns-in_err-got-clause-says : goal.returns-in_err-got-clause-says
returns-in_err-got-clause-says g c = λ below w next.
    let p = err_from_is_err_and c.from_residual.result c.from_residual.ensures.1 in
    let wanted = map asked c.args.reader.now.wanted.items in
    rw p.1 (got_nothing (g.S.Store.view c.args.store.now) (g.S.Store.view c.get_block.new.self) (λ stored. SaysNext {E = Fault} stored wanted wanted (g.W.Write.contents c.args.output.now) (g.V.Write.contents c.args.errors.now) (Err (fault.Store c.in_err-got.field-0.0)) (g.W.Write.contents c.args.output.now) (g.V.Write.contents c.args.errors.now))
    (λ stored. next_refused stored wanted wanted (g.W.Write.contents c.args.output.now) (g.V.Write.contents c.args.errors.now) (fault.Store c.in_err-got.field-0.0)))

pub returns-in_err-well-clause-says : goal.returns-in_err-well-clause-says
returns-in_err-well-clause-says g c = λ below w next.
    let p = err_from_is_err_and c.from_residual-in_err-well.result c.from_residual-in_err-well.ensures.1 in
    rw p.1 (got_one (g.S.Store.view c.args.store.now) (g.S.Store.view c.get_block.new.self) c.args.name.now c.in_ok-got.got
    (λ stored. SaysNext {E = Fault} stored (map asked c.args.reader.now.wanted.items) (map asked c.say_block.new.reader.wanted.items) (g.W.Write.contents c.args.output.now) (g.V.Write.contents c.args.errors.now) (Err (fault.Tool c.in_err-well.field-0.0)) (g.W.Write.contents c.say_block.new.output) (g.V.Write.contents c.say_block.new.errors))
    c.in_ok-got.ensures.verified c.in_ok-got.ensures.found (λ stored e. c.in_err-well.ensures stored below w (e ∙ sym c.bytes_got.ensures) next))

pub returns-clause-says : goal.returns-clause-says
returns-clause-says g c = λ below w next.
    got_one (g.S.Store.view c.args.store.now) (g.S.Store.view c.get_block.new.self) c.args.name.now c.in_ok-got.got
    (λ stored. SaysNext {E = Fault} stored (map asked c.args.reader.now.wanted.items) (map asked c.say_block.new.reader.wanted.items) (g.W.Write.contents c.args.output.now) (g.V.Write.contents c.args.errors.now) (Ok c.in_ok-well.well) (g.W.Write.contents c.say_block.new.output) (g.V.Write.contents c.say_block.new.errors))
    c.in_ok-got.ensures.verified c.in_ok-got.ensures.found (λ stored e. c.in_ok-well.ensures stored below w (e ∙ sym c.bytes_got.ensures) next)
