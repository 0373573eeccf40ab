use Rattle.std.proofs.Common.{map, Ok, Some, true, ap}
use Rattle.files_unix_fs.specs.Reading.{asked}
use Rattle.program_parts.specs.Content.{SaysNext}
use Rattle.program_dagstore.specs.declared.fault.Fault.{Fault}
use Rattle.program_dagstore.proofs.Contents.{got_nothing, next_ended, next_named, fails_next}
use Rattle.program_dagstore.proofs.file.write_next.Goals as goal

pub returns-in_default-clause-says : goal.returns-in_default-clause-says
returns-in_default-clause-says g c =
    let wanted = map asked c.args.reader.now.wanted.items in
    let store = g.S.Store.view c.args.store.now in
    got_nothing store store (λ stored. SaysNext {E = Fault} stored wanted wanted (g.W.Write.contents c.args.output.now) (g.V.Write.contents c.args.errors.now) (Ok (Some true)) (g.W.Write.contents c.args.output.now) (g.V.Write.contents c.args.errors.now))
    (λ stored. next_ended stored wanted (g.W.Write.contents c.args.output.now) (g.V.Write.contents c.args.errors.now) (ap (map asked) c.in_default.ensures))

pub returns-clause-says : goal.returns-clause-says
returns-clause-says g c =
    let below = c.in-Some.ensures in
    c.write_block.ensures.says (map asked below.0) (asked c.in-Some.wanted.now) (next_named c.args.reader.now.wanted.items below.0 c.in-Some.wanted.now c.version-version.ensures.valid below.1)

pub returns-clause-fault : goal.returns-clause-fault
returns-clause-fault g c =
    let below = c.in-Some.ensures in
    fails_next g.S.Store (map asked c.args.reader.now.wanted.items) (map asked below.0) (asked c.in-Some.wanted.now) c.in-Some.wanted.now.cid c.args.store.now c.write_block.new.store c.write_block.result (next_named c.args.reader.now.wanted.items below.0 c.in-Some.wanted.now c.version-version.ensures.valid below.1) c.write_block.ensures.fault
