use Rattle.std.proofs.Common.{inl, inr, Err}
use Rattle.std.proofs.lemmas.Result.{err_from_is_err_and}
use Rattle.ipld_paths.specs.Paths.{segments}
use Rattle.program_parts.specs.Content.{SaysContent}
use Rattle.program_parts.specs.FileNames.{LeadsByNames, EndsByNames}
use Rattle.program_dagstore.specs.Contents.{SaysFile, IsOnTheWay, IsWantedIn, IsOfFile}
use Rattle.program_dagstore.specs.declared.fault.Fault.TheVariants as fault
use Rattle.program_dagstore.proofs.Contents.{got_nothing, got_so, got_on, got_stored_so, fails_so, fails_after, end_told, file_refused}
use Rattle.program_dagstore.proofs.file.write_file.Goals as goal

pub returns-in-Ok-Ok-clause-says : goal.returns-in-Ok-Ok-clause-says
returns-in-Ok-Ok-clause-says g c =
    let root = c.args.root.now in
    let path = segments c.args.path.now in
    let found = c.in-Ok-Ok.found in
    got_on g.S.Store c.args.store.now c.find_file.new.store c.write_content.new.store (λ stored. LeadsByNames stored root path found) (λ stored. SaysContent stored found (g.W.Write.contents c.args.output.now) (g.V.Write.contents c.args.errors.now) c.write_content.result (g.W.Write.contents c.write_content.new.output) (g.V.Write.contents c.write_content.new.errors)) (λ stored. SaysFile stored root path (g.W.Write.contents c.args.output.now) (g.V.Write.contents c.args.errors.now) c.write_content.result (g.W.Write.contents c.write_content.new.output) (g.V.Write.contents c.write_content.new.errors))
    c.in-Ok-Ok.ensures.reads.same c.write_content.ensures.reads.quiet (rw c.in-Ok-Ok.field-0-is at c.in-Ok-Ok.ensures.found) c.write_content.ensures.says
    (λ stored leads said. inl (found, leads, said))

pub returns-in-Ok-Ok-clause-fault : goal.returns-in-Ok-Ok-clause-fault
returns-in-Ok-Ok-clause-fault g c =
    let root = c.args.root.now in
    let path = segments c.args.path.now in
    let found = c.in-Ok-Ok.found in
    fails_after g.S.Store c.args.store.now c.find_file.new.store c.write_content.new.store (IsWantedIn found) (IsOfFile root path) c.write_content.result c.find_file.ensures.reads.quiet c.in-Ok-Ok.ensures.reads.same c.write_content.ensures.reads.quiet
    (λ clean stored shows n wanted. inr (found, got_stored_so g.S.Store c.args.store.now c.find_file.new.store (λ s. LeadsByNames s root path found) (rw c.in-Ok-Ok.field-0-is at c.in-Ok-Ok.ensures.found) clean stored shows, wanted))
    c.write_content.ensures.fault

pub returns-in-Err-clause-says : goal.returns-in-Err-clause-says
returns-in-Err-clause-says g c =
    let root = c.args.root.now in
    let path = segments c.args.path.now in
    got_nothing (g.S.Store.view c.args.store.now) (g.S.Store.view c.find_file.new.store) (λ stored. SaysFile stored root path (g.W.Write.contents c.args.output.now) (g.V.Write.contents c.args.errors.now) (Err c.in-Err.fault) (g.W.Write.contents c.args.output.now) (g.V.Write.contents c.args.errors.now)) (λ stored. file_refused stored root path (g.W.Write.contents c.args.output.now) (g.V.Write.contents c.args.errors.now) c.in-Err.fault)

pub returns-in-Err-clause-fault : goal.returns-in-Err-clause-fault
returns-in-Err-clause-fault g c =
    let root = c.args.root.now in
    let path = segments c.args.path.now in
    fails_so g.S.Store c.args.store.now c.find_file.new.store (IsOnTheWay root path) (IsOfFile root path) c.in-Err.fault (λ stored n on. inl on) c.in-Err.ensures.fault

pub returns-in_err-well-in-Ok-Err-clause-says : goal.returns-in_err-well-in-Ok-Err-clause-says
returns-in_err-well-in-Ok-Err-clause-says g c =
    let root = c.args.root.now in
    let path = segments c.args.path.now in
    let e = c.in_err-well-in-Ok-Err.field-0.0 in
    let end = c.in-Ok-Err.end in
    let p = err_from_is_err_and c.from_residual.result c.from_residual.ensures.1 in
    rw (p.1, p.2) (got_so (g.S.Store.view c.args.store.now) (g.S.Store.view c.find_file.new.store) (λ stored. EndsByNames stored root path end) (λ stored. SaysFile stored root path (g.W.Write.contents c.args.output.now) (g.V.Write.contents c.args.errors.now) (Err (fault.Tool e)) (g.W.Write.contents c.tell_end.new.output) (g.V.Write.contents c.tell_end.new.errors)) (rw c.in-Ok-Err.field-0-is at c.in-Ok-Err.ensures.found)
    (λ stored ends. inr (end_told stored root path end (g.W.Write.contents c.args.output.now) (g.V.Write.contents c.args.errors.now) (Err e) (g.W.Write.contents c.tell_end.new.output) (g.V.Write.contents c.tell_end.new.errors) ends c.in_err-well-in-Ok-Err.ensures)))
