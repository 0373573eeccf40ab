use Rattle.std.proofs.Common.{map, arith, Ok, Err, None, Some}
use Rattle.std.proofs.lemmas.Result.{err_from_is_err_and}
use Rattle.files_unix_fs.specs.Reading.{asked}
use Rattle.program_shared.specs.declared.fault.ToolError.TheVariants.{OutOfMemory}
use Rattle.program_parts.specs.Content.{SaysNext, SaysContent}
use Rattle.program_parts.proofs.Contents.{HasSaid, content_not_begun, content_begun, content_on, content_ended, content_broken, content_endless}
use Rattle.store_on_disk.proofs.Adding.{quiet_itself, quiet_then}
use Rattle.store_on_disk.proofs.Walking.{same_itself, same_then}
use Rattle.program_dagstore.specs.declared.fault.Fault.{Fault}
use Rattle.program_dagstore.specs.declared.fault.Fault.TheVariants as fault
use Rattle.program_dagstore.proofs.Contents.{got_nothing, got_so, got_on, got_stored_so, fails_wanted}
use Rattle.program_dagstore.proofs.file.write_content.Goals as goal

pub loop-count-init : goal.loop-count-init
loop-count-init g c = (
  quiet_itself g.S.Store c.args.store.now,
  λ clean. same_itself (g.S.Store.view c.args.store.now),
  got_nothing (g.S.Store.view c.args.store.now) (g.S.Store.view c.args.store.now)
      (λ stored. HasSaid stored c.args.root.now (map asked c.in_ok-reader.reader.wanted.items) (g.W.Write.contents c.args.output.now) (g.V.Write.contents c.args.errors.now) (g.W.Write.contents c.args.output.now) (g.V.Write.contents c.args.errors.now))
      (λ stored. content_begun stored c.args.root.now (map asked c.in_ok-reader.reader.wanted.items) (g.W.Write.contents c.args.output.now) (g.V.Write.contents c.args.errors.now) (c.in_ok-reader.ensures stored)),
)

pub returns-in_err-reader-clause-says : goal.returns-in_err-reader-clause-says
returns-in_err-reader-clause-says g c =
    let p = err_from_is_err_and c.from_residual.result c.from_residual.ensures.1 in
    let store = g.S.Store.view c.args.store.now in
    rw p.1 (got_nothing store store (λ stored. SaysContent stored c.args.root.now (g.W.Write.contents c.args.output.now) (g.V.Write.contents c.args.errors.now) (Err (fault.Tool c.in_err-reader.field-0.0)) (g.W.Write.contents c.args.output.now) (g.V.Write.contents c.args.errors.now)) (λ stored. content_not_begun stored c.args.root.now (g.W.Write.contents c.args.output.now) (g.V.Write.contents c.args.errors.now) (fault.Tool c.in_err-reader.field-0.0)))

pub returns-in_err-well-clause-says : goal.returns-in_err-well-clause-says
returns-in_err-well-clause-says g c =
    let p = err_from_is_err_and c.from_residual-in_err-well.result c.from_residual-in_err-well.ensures.1 in
    let e = c.in_err-well.field-0.0 in
    rw p.1 (got_on g.S.Store c.args.store.now c.loop-count.store c.write_next.new.store (λ stored. HasSaid stored c.args.root.now (map asked c.loop-count.reader.wanted.items) (g.W.Write.contents c.args.output.now) (g.V.Write.contents c.args.errors.now) (g.W.Write.contents c.loop-count.output) (g.V.Write.contents c.loop-count.errors)) (λ stored. SaysNext stored (map asked c.loop-count.reader.wanted.items) (map asked c.write_next.new.reader.wanted.items) (g.W.Write.contents c.loop-count.output) (g.V.Write.contents c.loop-count.errors) (Err e) (g.W.Write.contents c.write_next.new.output) (g.V.Write.contents c.write_next.new.errors)) (λ stored. SaysContent stored c.args.root.now (g.W.Write.contents c.args.output.now) (g.V.Write.contents c.args.errors.now) (Err e) (g.W.Write.contents c.write_next.new.output) (g.V.Write.contents c.write_next.new.errors))
    c.loop-count.invariant.1 c.write_next.ensures.reads.quiet c.loop-count.invariant.2 c.in_err-well.ensures.says
    (λ stored h k. content_broken stored c.args.root.now (map asked c.loop-count.reader.wanted.items) (map asked c.write_next.new.reader.wanted.items) e (g.W.Write.contents c.args.output.now) (g.V.Write.contents c.args.errors.now) (g.W.Write.contents c.loop-count.output) (g.V.Write.contents c.loop-count.errors) (g.W.Write.contents c.write_next.new.output) (g.V.Write.contents c.write_next.new.errors) h k))

pub returns-in_err-well-clause-fault : goal.returns-in_err-well-clause-fault
returns-in_err-well-clause-fault g c =
    let p = err_from_is_err_and c.from_residual-in_err-well.result c.from_residual-in_err-well.ensures.1 in
    rw (p.1, p.2) (fails_wanted g.S.Store c.args.root.now (map asked c.loop-count.reader.wanted.items) c.args.store.now c.loop-count.store c.write_next.new.store c.in_err-well.field-0.0
    c.loop-count.invariant.0 c.loop-count.invariant.1 c.write_next.ensures.reads.quiet
    (λ clean stored shows. let h = got_stored_so g.S.Store c.args.store.now c.loop-count.store (λ stored. HasSaid stored c.args.root.now (map asked c.loop-count.reader.wanted.items) (g.W.Write.contents c.args.output.now) (g.V.Write.contents c.args.errors.now) (g.W.Write.contents c.loop-count.output) (g.V.Write.contents c.loop-count.errors)) c.loop-count.invariant.2 clean stored shows in (h.0, h.1))
    c.in_err-well.ensures.fault)

pub returns-in-Some-clause-says : goal.returns-in-Some-clause-says
returns-in-Some-clause-says g c =
    got_on g.S.Store c.args.store.now c.loop-count.store c.write_next.new.store (λ stored. HasSaid stored c.args.root.now (map asked c.loop-count.reader.wanted.items) (g.W.Write.contents c.args.output.now) (g.V.Write.contents c.args.errors.now) (g.W.Write.contents c.loop-count.output) (g.V.Write.contents c.loop-count.errors)) (λ stored. SaysNext {E = Fault} stored (map asked c.loop-count.reader.wanted.items) (map asked c.write_next.new.reader.wanted.items) (g.W.Write.contents c.loop-count.output) (g.V.Write.contents c.loop-count.errors) (Ok (Some c.in-Some.well)) (g.W.Write.contents c.write_next.new.output) (g.V.Write.contents c.write_next.new.errors)) (λ stored. SaysContent {E = Fault} stored c.args.root.now (g.W.Write.contents c.args.output.now) (g.V.Write.contents c.args.errors.now) (Ok c.in-Some.well) (g.W.Write.contents c.write_next.new.output) (g.V.Write.contents c.write_next.new.errors))
    c.loop-count.invariant.1 c.write_next.ensures.reads.quiet c.loop-count.invariant.2 (rw c.in-Some.is at c.in_ok-well.ensures.says)
    (λ stored h k. content_ended stored c.args.root.now (map asked c.loop-count.reader.wanted.items) (map asked c.write_next.new.reader.wanted.items) c.in-Some.well (g.W.Write.contents c.args.output.now) (g.V.Write.contents c.args.errors.now) (g.W.Write.contents c.loop-count.output) (g.V.Write.contents c.loop-count.errors) (g.W.Write.contents c.write_next.new.output) (g.V.Write.contents c.write_next.new.errors) h k)

pub loop-count-preserved : goal.loop-count-preserved
loop-count-preserved g c =
    let old = g.S.Store.view c.args.store.now in
    let mid = g.S.Store.view c.loop-count.store in
    let new = g.S.Store.view c.write_next.new.store in (
      quiet_then g.S.Store c.args.store.now c.loop-count.store c.write_next.new.store c.loop-count.invariant.0 c.write_next.ensures.reads.quiet,
      λ clean. same_then old mid new (c.loop-count.invariant.1 (omega (arith, c.write_next.ensures.reads.quiet.clean))) (c.in_ok-well.ensures.reads.same clean),
      got_on g.S.Store c.args.store.now c.loop-count.store c.write_next.new.store (λ stored. HasSaid stored c.args.root.now (map asked c.loop-count.reader.wanted.items) (g.W.Write.contents c.args.output.now) (g.V.Write.contents c.args.errors.now) (g.W.Write.contents c.loop-count.output) (g.V.Write.contents c.loop-count.errors)) (λ stored. SaysNext {E = Fault} stored (map asked c.loop-count.reader.wanted.items) (map asked c.write_next.new.reader.wanted.items) (g.W.Write.contents c.loop-count.output) (g.V.Write.contents c.loop-count.errors) (Ok None) (g.W.Write.contents c.write_next.new.output) (g.V.Write.contents c.write_next.new.errors)) (λ stored. HasSaid stored c.args.root.now (map asked c.write_next.new.reader.wanted.items) (g.W.Write.contents c.args.output.now) (g.V.Write.contents c.args.errors.now) (g.W.Write.contents c.write_next.new.output) (g.V.Write.contents c.write_next.new.errors))
          c.loop-count.invariant.1 c.write_next.ensures.reads.quiet c.loop-count.invariant.2 (rw c.in_default.is at c.in_ok-well.ensures.says)
          (λ stored h k. content_on stored c.args.root.now (map asked c.loop-count.reader.wanted.items) (map asked c.write_next.new.reader.wanted.items) (g.W.Write.contents c.args.output.now) (g.V.Write.contents c.args.errors.now) (g.W.Write.contents c.loop-count.output) (g.V.Write.contents c.loop-count.errors) (g.W.Write.contents c.write_next.new.output) (g.V.Write.contents c.write_next.new.errors) h k),
    )

pub returns-clause-says : goal.returns-clause-says
returns-clause-says g c =
    got_so (g.S.Store.view c.args.store.now) (g.S.Store.view c.loop-count.store) (λ stored. HasSaid stored c.args.root.now (map asked c.loop-count.reader.wanted.items) (g.W.Write.contents c.args.output.now) (g.V.Write.contents c.args.errors.now) (g.W.Write.contents c.loop-count.output) (g.V.Write.contents c.loop-count.errors)) (λ stored. SaysContent stored c.args.root.now (g.W.Write.contents c.args.output.now) (g.V.Write.contents c.args.errors.now) (Err (fault.Tool OutOfMemory)) (g.W.Write.contents c.loop-count.output) (g.V.Write.contents c.loop-count.errors)) c.loop-count.invariant.2
    (λ stored h. content_endless stored c.args.root.now (map asked c.loop-count.reader.wanted.items) (fault.Tool OutOfMemory) (g.W.Write.contents c.args.output.now) (g.V.Write.contents c.args.errors.now) (g.W.Write.contents c.loop-count.output) (g.V.Write.contents c.loop-count.errors) h)
