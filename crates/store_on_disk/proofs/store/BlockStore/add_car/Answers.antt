use Rattle.std.proofs.Common.{ℕ, inl, inr, [], refl, subst, Vec, Option, Global}
use Rattle.dagcbor_heads.specs.Inputs.{input_reading}
use Rattle.ipld_tree.specs.Cid.{CidParts}
use Rattle.dagcbor_items.specs.Walks.{forms}
use Rattle.files_car.specs.Sources.{RefusesStart, FileLacks}
use Rattle.store_on_disk.specs.declared.car_error.ReadCarError.TheVariants.{Header}
use Rattle.store_on_disk.specs.Roots.{RootsRefused}
use Rattle.store_on_disk.specs.Cars.{AddsSections}
use Rattle.store_on_disk.proofs.Adding.{adds_none, quiet_then}
use Rattle.store_on_disk.proofs.Reading.{read_to, read_begun, read_whole, file_refused, added_all, run_refused, run_quiet}
use Rattle.store_on_disk.proofs.store.BlockStore.add_car.Goals as goal

pub returns-in-Err-clause-adds : goal.returns-in-Err-clause-adds
returns-in-Err-clause-adds g c = inl (file_refused (Vec CidParts Global × Option ℕ) Header RefusesStart (FileLacks (input_reading g.R.Read.reading c.args.input.now)) c.in-Err.error c.of_header.result (input_reading g.R.Read.reading c.args.input.now) (input_reading g.R.Read.reading c.pull_header.new.input) c.of_header.ensures c.in-Err.ensures.taken c.in-Err.ensures.memory, refl)

pub returns-in-Err-add_roots-clause-adds : goal.returns-in-Err-add_roots-clause-adds
returns-in-Err-add_roots-clause-adds g c =
    let roots = c.in-Ok.begun.0.items in
    inr (inl (record { roots = roots; extent = c.in-Ok.begun.1; told = c.in-Err-add_roots.refusal; taken = read_to (read_begun (forms roots) _ _ _ c.in-Ok.ensures.taken); says = c.of_refusal.ensures; why = subst (λ ns. RootsRefused g.S.Store ns c.args.self.now c.add_roots.new.self c.in-Err-add_roots.refusal) c.deref.ensures.value c.in-Err-add_roots.ensures.refused }))

pub returns-in-Ok-each_section-clause-adds : goal.returns-in-Ok-each_section-clause-adds
returns-in-Ok-each_section-clause-adds g c =
    let roots = c.in-Ok.begun.0.items in
    let start = input_reading g.R.Read.reading c.args.input.now in
    let k = c.in-Ok-each_section.ensures in
    let begun = read_begun (forms roots) _ _ _ c.in-Ok.ensures.taken in
    let held = subst (λ ns. AddsSections g.S.Store ns [] c.args.self.now c.add_roots.new.self) c.deref.ensures.value
    (adds_none g.S.Store c.deref.result.now c.args.self.now c.add_roots.new.self c.in-Ok-add_roots.ensures.table c.in-Ok-add_roots.ensures.ok c.add_roots.ensures.quiet) in
    let at = added_all g.S.Store roots start c.args.self.now k.0 _ _ _ _ c.add_roots.new.self _ (begun, held) k.3 in
    record { sections = k.0; extent = k.1; more = c.each_section.new.left; mid = k.2; counts = k.4; taken = read_to at.0; ends = k.5; read = read_whole (forms roots) k.0 _ _ _ _ _ at.0 k.5; adds = at.1 }

pub returns-in-Ok-each_section-clause-quiet : goal.returns-in-Ok-each_section-clause-quiet
returns-in-Ok-each_section-clause-quiet g c =
    quiet_then g.S.Store c.args.self.now c.add_roots.new.self c.each_section.new.sink c.add_roots.ensures.quiet
    (run_quiet g.S.Store _ _ _ _ c.add_roots.new.self c.each_section.new.sink c.each_section.result c.each_section.ensures)

pub returns-in-Err-each_section-clause-adds : goal.returns-in-Err-each_section-clause-adds
returns-in-Err-each_section-clause-adds g c =
    let roots = c.in-Ok.begun.0.items in
    let begun = read_begun (forms roots) _ _ _ c.in-Ok.ensures.taken in
    let held = subst (λ ns. AddsSections g.S.Store ns [] c.args.self.now c.add_roots.new.self) c.deref.ensures.value
    (adds_none g.S.Store c.deref.result.now c.args.self.now c.add_roots.new.self c.in-Ok-add_roots.ensures.table c.in-Ok-add_roots.ensures.ok c.add_roots.ensures.quiet) in
    run_refused g.S.Store roots (input_reading g.R.Read.reading c.args.input.now) c.args.self.now _ _ _ _ c.add_roots.new.self _ c.in-Err-each_section.error c.of_run.result (begun, held) c.in-Err-each_section.ensures c.of_run.ensures

pub returns-in-Err-each_section-clause-quiet : goal.returns-in-Err-each_section-clause-quiet
returns-in-Err-each_section-clause-quiet g c =
    quiet_then g.S.Store c.args.self.now c.add_roots.new.self c.each_section.new.sink c.add_roots.ensures.quiet
    (run_quiet g.S.Store _ _ _ _ c.add_roots.new.self c.each_section.new.sink c.each_section.result c.each_section.ensures)
