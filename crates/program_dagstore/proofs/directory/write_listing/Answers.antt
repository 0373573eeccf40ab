use Rattle.std.proofs.Common.{subst, sym, Ok, Err}
use Rattle.std.proofs.lemmas.Result.{err_from_is_err_and}
use Rattle.ipld_paths.specs.Paths.{segments}
use Rattle.program_parts.specs.Entries.{IsListing}
use Rattle.program_parts.proofs.Saying.{both_said}
use Rattle.program_dagstore.specs.Said.{SaysAll}
use Rattle.program_dagstore.specs.declared.fault.Fault.TheVariants as fault
use Rattle.program_dagstore.proofs.Contents.{got_nothing, got_so}
use Rattle.program_dagstore.proofs.Directories.{none_said}
use Rattle.program_dagstore.proofs.directory.write_listing.Goals as goal

pub returns-in_ok-well-in-Ok-clause-says : goal.returns-in_ok-well-in-Ok-clause-says
returns-in_ok-well-in-Ok-clause-says g c =
    let said = c.in-Ok.said in
    let old = g.W.Write.contents c.args.output.now in
    let heard = g.V.Write.contents c.args.errors.now in
    let new = g.W.Write.contents c.say_both.new.output in
    let after = g.V.Write.contents c.say_both.new.errors in
    let root = c.args.root.now in
    let path = segments c.args.path.now in
    got_so (g.S.Store.view c.args.store.now) (g.S.Store.view c.listing.new.store) (λ stored. IsListing stored root path said.1 said.0.items c.in-Ok.told.items) (λ stored. SaysAll (IsListing stored root path) old heard (Ok c.in_ok-well-in-Ok.well) new after) c.in-Ok.ensures.says
    (λ stored is.
    both_said (IsListing stored root path) said.0.items c.deref.result.now said.1 old heard (Ok c.in_ok-well-in-Ok.well) new after (subst (IsListing stored root path said.1 said.0.items) (sym c.deref.ensures.value) is) c.in_ok-well-in-Ok.ensures)

pub returns-in_err-well-in-Ok-clause-says : goal.returns-in_err-well-in-Ok-clause-says
returns-in_err-well-in-Ok-clause-says g c =
    let said = c.in-Ok.said in
    let e = c.in_err-well-in-Ok.field-0.0 in
    let p = err_from_is_err_and c.from_residual.result c.from_residual.ensures.1 in
    let old = g.W.Write.contents c.args.output.now in
    let heard = g.V.Write.contents c.args.errors.now in
    let new = g.W.Write.contents c.say_both.new.output in
    let after = g.V.Write.contents c.say_both.new.errors in
    let root = c.args.root.now in
    let path = segments c.args.path.now in
    rw (p.1, p.2) (got_so (g.S.Store.view c.args.store.now) (g.S.Store.view c.listing.new.store) (λ stored. IsListing stored root path said.1 said.0.items c.in-Ok.told.items) (λ stored. SaysAll (IsListing stored root path) old heard (Err (fault.Tool e)) new after) c.in-Ok.ensures.says
    (λ stored is.
    both_said (IsListing stored root path) said.0.items c.deref.result.now said.1 old heard (Err e) new after (subst (IsListing stored root path said.1 said.0.items) (sym c.deref.ensures.value) is) c.in_err-well-in-Ok.ensures))

pub returns-in-Err-clause-says : goal.returns-in-Err-clause-says
returns-in-Err-clause-says g c =
    let old = g.W.Write.contents c.args.output.now in
    let heard = g.V.Write.contents c.args.errors.now in
    let root = c.args.root.now in
    let path = segments c.args.path.now in
    got_nothing (g.S.Store.view c.args.store.now) (g.S.Store.view c.listing.new.store) (λ stored. SaysAll (IsListing stored root path) old heard (Err c.in-Err.fault) old heard) (λ stored. none_said (IsListing stored root path) old heard c.in-Err.fault)
