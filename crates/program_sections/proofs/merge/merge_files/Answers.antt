use Rattle.std.proofs.Common.{rules, arith, ap, length, map, Ok, subst}
use Rattle.std.specs.Vec.Iter.{into_iter_items}
use Rattle.program_sections.specs.MergeSteps.{merging_work, place_of, MergesFile}
use Rattle.program_sections.proofs.Merging.{so_far_more, so_far_broke, so_far_told, so_far_all, none_told, nil_of}
use Rattle.program_sections.proofs.merge.merge_files.Goals as goal

pub returns-in_err-line : goal.returns-in_err-line
returns-in_err-line g c =
    let place = place_of g.R.Read.reading in
    let work = merging_work g.W.Write.contents in
    so_far_broke (map place c.args.files.items) (map place (into_iter_items c.loop-file.file-iterator)) (map place (into_iter_items c.next.new.self)) (place c.in-Some.file) (work c.args.merging.now) (work c.loop-file.merging) (work c.merge_file.new.merging) c.from_residual.result c.in_err-line.field-0.0
    c.loop-file.invariant.merged (ap (map place) c.in-Some.ensures.steps.0) c.in_err-line.ensures c.from_residual.ensures.1

pub returns-in-Some-2 : goal.returns-in-Some-2
returns-in-Some-2 g c =
    let place = place_of g.R.Read.reading in
    let work = merging_work g.W.Write.contents in
    so_far_told (map place c.args.files.items) (map place (into_iter_items c.loop-file.file-iterator)) (map place (into_iter_items c.next.new.self)) (place c.in-Some.file) (work c.args.merging.now) (work c.loop-file.merging) (work c.merge_file.new.merging) c.in-Some-2.line
    c.loop-file.invariant.merged (ap (map place) c.in-Some.ensures.steps.0) (subst (λ x. MergesFile (place c.in-Some.file) (work c.loop-file.merging) (Ok x) (work c.merge_file.new.merging)) c.in-Some-2.is c.in_ok-line.ensures)

pub loop-file-preserved : goal.loop-file-preserved
loop-file-preserved g c =
    let place = place_of g.R.Read.reading in
    let work = merging_work g.W.Write.contents in
    let count = ap length c.in-Some.ensures.steps.0 in
    record {
      can_next = tt;
      is_finite = tt;
      count = omega (arith, c.in-Some.ensures.steps.1, c.loop-file.invariant.count, count);
      merged = so_far_more (map place c.args.files.items) (map place (into_iter_items c.loop-file.file-iterator)) (map place (into_iter_items c.next.new.self)) (place c.in-Some.file) (work c.args.merging.now) (work c.loop-file.merging) (work c.merge_file.new.merging)
          c.loop-file.invariant.merged (ap (map place) c.in-Some.ensures.steps.0) (subst (λ x. MergesFile (place c.in-Some.file) (work c.loop-file.merging) (Ok x) (work c.merge_file.new.merging)) (none_told c.in_ok-line.field-0 (search rules)) c.in_ok-line.ensures);
    }

pub returns : goal.returns
returns g c =
    let place = place_of g.R.Read.reading in
    let work = merging_work g.W.Write.contents in
    so_far_all (map place c.args.files.items) (map place (into_iter_items c.loop-file.file-iterator)) (work c.args.merging.now) (work c.loop-file.merging) c.loop-file.invariant.merged (ap (map place) (nil_of (into_iter_items c.loop-file.file-iterator) _ c.in-None.ensures.steps.0 c.loop-file.invariant.count))
