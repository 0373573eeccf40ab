use Rattle.std.proofs.Common.{map}
use Rattle.std.proofs.lemmas.Result.{err_from_is_err_and}
use Rattle.files_unix_fs.specs.Reading.{asked}
use Rattle.program_parts.proofs.Contents.{part_said, part_broken, stop_said, stop_broken}
use Rattle.program_parts.proofs.content.say_block.Goals as goal

pub returns-in_err-write_all-in-Ok : goal.returns-in_err-write_all-in-Ok
returns-in_err-write_all-in-Ok g c = λ all below w held next.
    let p = err_from_is_err_and c.from_residual.result c.from_residual.ensures.1 in
    let k = c.in_err-write_all-in-Ok.ensures.written in
    rw p.1 (part_broken all (map asked c.args.reader.now.wanted.items) (map asked c.take_stored.new.reader.wanted.items) c.in-Ok.piece.now k.0 k.1 (g.W.Write.contents c.args.output.now) (g.V.Write.contents c.args.errors.now) (g.W.Write.contents c.write_all.new.writer) p.0 k.2 k.3 (c.in-Ok.ensures all below w held next))

pub returns-in_err-tell_stop-in-Err : goal.returns-in_err-tell_stop-in-Err
returns-in_err-tell_stop-in-Err g c = λ all below w held next.
    let p = err_from_is_err_and c.from_residual-in_err-tell_stop-in-Err.result c.from_residual-in_err-tell_stop-in-Err.ensures.1 in
    rw p.1 (stop_broken all (map asked c.args.reader.now.wanted.items) (map asked c.take_stored.new.reader.wanted.items) below w c.args.name.now c.in-Err.stop (g.W.Write.contents c.args.output.now) (g.V.Write.contents c.args.errors.now) (g.V.Write.contents c.tell_stop.new.errors) p.0 next (c.in-Err.ensures all below w held next) c.in_err-tell_stop-in-Err.ensures)

pub returns-in_ok-write_all-in-Ok : goal.returns-in_ok-write_all-in-Ok
returns-in_ok-write_all-in-Ok g c = λ all below w held next.
    let k = c.in_ok-write_all-in-Ok.ensures.written in
    part_said all (map asked c.args.reader.now.wanted.items) (map asked c.take_stored.new.reader.wanted.items) c.in-Ok.piece.now k.0 k.1 (g.W.Write.contents c.args.output.now) (g.V.Write.contents c.args.errors.now) (g.W.Write.contents c.write_all.new.writer) k.2 k.4 k.3 (c.in-Ok.ensures all below w held next)

pub returns-in_ok-tell_stop-in-Err : goal.returns-in_ok-tell_stop-in-Err
returns-in_ok-tell_stop-in-Err g c = λ all below w held next.
    stop_said all (map asked c.args.reader.now.wanted.items) (map asked c.take_stored.new.reader.wanted.items) below w c.args.name.now c.in-Err.stop (g.W.Write.contents c.args.output.now) (g.V.Write.contents c.args.errors.now) (g.V.Write.contents c.tell_stop.new.errors) next (c.in-Err.ensures all below w held next) c.in_ok-tell_stop-in-Err.ensures
